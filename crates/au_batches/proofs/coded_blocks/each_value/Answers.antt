-- The blocks fit the columns' kinds, and the code of one more stands behind the others.
use Rattle.std.proofs.Common.{◌∙◌, ◌++◌, ap, map}
use Rattle.std.specs.List.{list_all}
use Rattle.au_blocks.specs.Blocks.{Candidate, Choices}
use Rattle.au_blocks.specs.Tables.{column_kinds, fits_kinds, table}
use Rattle.au_codes.specs.Codes.{code}
use Rattle.au_codes.specs.TextCodes.{text_code}
use Rattle.au_translate.proofs.Alternatives.{passes_at}
use Rattle.au_translate.proofs.Places.{next_rows}
use Rattle.au_batches.specs.BlockRows.{in_place}
use Rattle.au_batches.proofs.PlaceColumns.{place_apart}
use Rattle.au_batches.proofs.coded_blocks.each_value.Goals as goal

pub place_value-value-requires : goal.place_value-value-requires
place_value-value-requires c =
    let t = table c.args.columns.now c.args.blocks.now in
    let fits = λ (b : Choices). list_all (λ (a : Candidate). fits_kinds (column_kinds t) a.cells) b.alternatives in
    (column_kinds t, passes_at fits t.blocks c.requires.table.rows c.loop-at.at c.get.result c.get.ensures)

pub loop-at-preserved : goal.loop-at-preserved
loop-at-preserved c =
    let number = code (text_code c.args.book.now) in
    let made = c.in_ok-push_code.ensures ∙ ap (λ vs. c.loop-at.numbers ++ map number vs) c.place_value-value.ensures in
    next_rows c.args.blocks.now c.loop-at.at c.get.result c.get.ensures (λ bs. map number (in_place c.args.place bs)) (place_apart (text_code c.args.book.now) c.args.place) c.loop-at.numbers _ _ made c.loop-at.invariant
