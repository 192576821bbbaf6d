-- No column has the codes of no value, one more stands for one value more of each row, and the rows are as wide as the first.
use Rattle.std.proofs.Common.{◌≡◌, ◌<◌, ◌≤◌, ◌∙◌, [], ap, arith, replicate, sym, length}
use Rattle.std.proofs.lemmas.List.{length-map}
use Rattle.au_codes.specs.Codes.{coded_rows}
use Rattle.au_codes.specs.TextCodes.{text_code}
use Rattle.au_exec.specs.HeldRows.{first_width, lent_rows}
use Rattle.au_exec.proofs.ValueColumns.{all_values, fronts, long_enough, next_column, no_values, one_width}
use Rattle.au_exec.proofs.value_columns.coded_values.Goals as goal

pub loop-place-init : goal.loop-place-init
loop-place-init c =
    let rows = lent_rows c.args.rows.now in
    c.new-batch.ensures ∙ (ap (λ n. replicate n []) (sym (length-map c.args.rows.now _)) ∙ no_values (text_code c.args.book.now) rows)

pub loop-place-preserved : goal.loop-place-preserved
loop-place-preserved c =
    let rows = lent_rows c.args.rows.now in
    let below : c.loop-place.place < first_width rows = grind (arith, c.loop-place-test.true, c.width-place-end.ensures) in
    next_column (text_code c.args.book.now) c.loop-place.place (first_width rows) rows c.loop-place.batch c.in_ok-batch.batch c.in_ok-column.column
    below (one_width c.requires.kinds.0 rows c.requires.kinds.1) c.in_ok-column.ensures c.in_ok-batch.ensures c.loop-place.invariant

pub returns : goal.returns
returns c =
    let rows = lent_rows c.args.rows.now in
    let most : first_width rows ≤ c.loop-place.place = grind (arith, c.loop-place-test.false, c.width-place-end.ensures) in
    c.loop-place.invariant ∙ ap (coded_rows (text_code c.args.book.now)) (all_values c.loop-place.place (first_width rows) rows most (one_width c.requires.kinds.0 rows c.requires.kinds.1))
