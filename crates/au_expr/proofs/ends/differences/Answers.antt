-- Three numbers, gathered where each fits.
use Rattle.std.specs.Prelude.{◌-ℤ◌}
use Rattle.std.proofs.Common.{arith}
use Rattle.std.proofs.lemmas.Int.{to_z-of_z, ints}
use Rattle.au_expr.proofs.Fits.{three_fit}
use Rattle.au_expr.proofs.ends.differences.Goals as goal

pub returns : goal.returns
returns c =
    let a = c.args.a in
    let b = c.args.b in
    three_fit (a.lo -ℤ b.hi) (a.sg -ℤ b.sg) (a.hi -ℤ b.lo) _ _ _ _
    (search (arith, ints, to_z-of_z, c.difference.ensures))
    (search (arith, ints, to_z-of_z, c.difference-2.ensures))
    (search (arith, ints, to_z-of_z, c.difference-3.ensures))
    c.gathered.ensures
