-- The fronts of the rows, from none to all of them.
use Rattle.std.proofs.Common.{◌∙◌}
use Rattle.au_columns.specs.Batches.{beside}
use Rattle.au_vector.proofs.WrittenCells.{all_fronts, column_is, next_fronts, no_fronts}
use Rattle.au_vector.proofs.written.written.Goals as goal

pub loop-place-init : goal.loop-place-init
loop-place-init c = c.new-batch.ensures ∙ no_fronts c.args.rows.now

pub loop-place-preserved : goal.loop-place-preserved
loop-place-preserved c =
    let rows = c.args.rows.now in
    let place = c.loop-place.place in
    c.in_ok-batch.ensures
    ∙ ((λ i. beside (c.loop-place.invariant i) ((c.in_ok-column.ensures ∙ column_is place rows) i))
    ∙ next_fronts c.args.width place rows c.loop-place-test.true c.requires)

pub returns : goal.returns
returns c = c.loop-place.invariant ∙ all_fronts c.args.width c.loop-place.place c.args.rows.now c.loop-place-test.false c.requires
