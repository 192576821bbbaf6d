-- Three numbers, gathered where each fits.
use Rattle.std.specs.Prelude.{neg_ℤ}
use Rattle.std.proofs.Common.{arith}
use Rattle.std.proofs.lemmas.Int.{to_z-of_z, ints}
use Rattle.au_expr.proofs.Fits.{three_fit}
use Rattle.au_expr.proofs.ends.negations.Goals as goal

pub returns : goal.returns
returns c =
    let a = c.args.a in
    three_fit (neg_ℤ a.hi) (neg_ℤ a.sg) (neg_ℤ a.lo) _ _ _ _
    (search (arith, ints, to_z-of_z, c.negation.ensures))
    (search (arith, ints, to_z-of_z, c.negation-2.ensures))
    (search (arith, ints, to_z-of_z, c.negation-3.ensures))
    c.gathered.ensures
