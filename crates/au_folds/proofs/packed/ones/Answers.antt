-- The power and the number below it fit.
use Rattle.std.proofs.Common.{arith}
use Rattle.std.proofs.lemmas.Int.{ints}
use Rattle.std.proofs.lemmas.Nat.{pow_pos}
use Rattle.au_folds.proofs.PackedLaws.{power_fits}
use Rattle.au_folds.proofs.packed.ones.Goals as goal

pub overflow_sub-result : goal.overflow_sub-result
overflow_sub-result c =
    let small = power_fits c.args.width c.requires in
    let some = pow_pos c.args.width in
    search (arith, ints, small, some)

pub returns : goal.returns
returns c =
    let small = power_fits c.args.width c.requires in
    let some = pow_pos c.args.width in
    omega (arith, ints, small, some)
