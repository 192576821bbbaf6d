-- The blocks fit the columns' kinds, and each has its row.
use Rattle.std.specs.List.{list_all}
use Rattle.au_blocks.specs.Blocks.{Candidate, Choices}
use Rattle.au_blocks.specs.Tables.{column_kinds, fits_kinds, table}
use Rattle.au_translate.specs.EncodingPieces.{bounded_apart}
use Rattle.au_translate.specs.Translate.{bounded_blocks}
use Rattle.au_translate.proofs.Alternatives.{passes_at}
use Rattle.au_translate.proofs.Places.{next_rows}
use Rattle.au_translate.proofs.relations.bounded_rows.Goals as goal

pub push_row-requires : goal.push_row-requires
push_row-requires c =
    let t = table c.args.columns.now c.args.blocks.now in
    let fits = λ (b : Choices). list_all (λ (a : Candidate). fits_kinds (column_kinds t) a.cells) b.alternatives in
    (column_kinds t, passes_at fits t.blocks c.requires.table.rows c.loop-place.place c.get.result c.get.ensures)

pub loop-place-preserved : goal.loop-place-preserved
loop-place-preserved c = next_rows c.args.blocks.now c.loop-place.place c.get.result c.get.ensures bounded_blocks bounded_apart c.loop-place.rel _ _ c.in_ok-push_row.ensures c.loop-place.invariant
