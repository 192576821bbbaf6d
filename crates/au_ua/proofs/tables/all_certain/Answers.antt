-- The next cell.
use Rattle.std.proofs.Common.{arith, length, ◌<◌}
use Rattle.std.proofs.lemmas.Grind.{common_steps}
use Rattle.au_ua.proofs.CellsLeft.{certain_at}
use Rattle.au_ua.proofs.tables.all_certain.Goals as goal

pub returns-then-not-is_certain : goal.returns-then-not-is_certain
returns-then-not-is_certain c =
    let within : c.loop-column.column < length c.args.alternative.now.cells = omega (arith, c.loop-column-test.true, c.width-column-end.ensures) in
    let next = certain_at c.args.alternative.now.cells c.loop-column.column c.is_certain.result within c.is_certain.ensures in
    grind (arith, common_steps)

pub loop-column-preserved : goal.loop-column-preserved
loop-column-preserved c =
    let within : c.loop-column.column < length c.args.alternative.now.cells = omega (arith, c.loop-column-test.true, c.width-column-end.ensures) in
    let next = certain_at c.args.alternative.now.cells c.loop-column.column c.is_certain.result within c.is_certain.ensures in
    grind (arith, common_steps)
