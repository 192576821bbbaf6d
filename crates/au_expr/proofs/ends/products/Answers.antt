-- Four products and that of the guesses, where each fits.
use Rattle.std.specs.Prelude.{◌*ℤ◌}
use Rattle.std.proofs.Common.{arith}
use Rattle.std.proofs.lemmas.Int.{to_z-of_z, ints}
use Rattle.au_expr.proofs.Fits.{extremes_fit}
use Rattle.au_expr.proofs.ends.products.Goals as goal

pub returns : goal.returns
returns c =
    let a = c.args.a in
    let b = c.args.b in
    extremes_fit (a.lo *ℤ b.lo) (a.lo *ℤ b.hi) (a.hi *ℤ b.lo) (a.hi *ℤ b.hi) (a.sg *ℤ b.sg) _ _ _ _ _ _
    (search (arith, ints, to_z-of_z, c.product.ensures))
    (search (arith, ints, to_z-of_z, c.product-2.ensures))
    (search (arith, ints, to_z-of_z, c.product-3.ensures))
    (search (arith, ints, to_z-of_z, c.product-4.ensures))
    (search (arith, ints, to_z-of_z, c.product-5.ensures))
    c.extremes.ensures
