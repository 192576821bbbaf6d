-- The next column.
use Rattle.std.proofs.Common.{arith, length, ◌<◌}
use Rattle.std.proofs.lemmas.Grind.{common_steps}
use Rattle.au_ua.proofs.CellsLeft.{same_at}
use Rattle.au_ua.proofs.tables.same.Goals as goal

pub returns-then-not-certainly_equal : goal.returns-then-not-certainly_equal
returns-then-not-certainly_equal c =
    let left : c.loop-column.column < length c.args.a.now.cells = omega (arith, c.loop-column-test.true, c.width-column-end.ensures) in
    let right : c.loop-column.column < length c.args.b.now.cells = omega (arith, left, c.width.ensures, c.width-2.ensures, c.if-width.false) in
    let next = same_at c.args.a.now.cells c.args.b.now.cells c.loop-column.column c.certainly_equal.result left right c.certainly_equal.ensures in
    grind (arith, common_steps)

pub loop-column-preserved : goal.loop-column-preserved
loop-column-preserved c =
    let left : c.loop-column.column < length c.args.a.now.cells = omega (arith, c.loop-column-test.true, c.width-column-end.ensures) in
    let right : c.loop-column.column < length c.args.b.now.cells = omega (arith, left, c.width.ensures, c.width-2.ensures, c.if-width.false) in
    let next = same_at c.args.a.now.cells c.args.b.now.cells c.loop-column.column c.certainly_equal.result left right c.certainly_equal.ensures in
    grind (arith, common_steps)
