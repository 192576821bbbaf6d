-- Laws of the test of kinds that an `impl` above names: the test tells equal kinds. Nothing is defined here.
use Rattle.std.specs.Prelude.{◌≡◌, true, refl}
use Rattle.std.proofs.Common.{sym, ap}
use Rattle.std.proofs.lemmas.Bool.{true≢false}
use Rattle.std.proofs.lemmas.Bool.Decides.{Decides-eqb}
use Rattle.au_value.specs.declared.kinds.Kind.{Kind}
use Rattle.au_value.specs.declared.kinds.Kind.TheVariants.{Int, Dec, Text, Flag}
use Rattle.au_value.specs.Order.{kind_eq}

-- two kinds that pass the test are equal
pub kind_eq_is : (a b : Kind) → kind_eq a b ≡ true → a ≡ b
kind_eq_is Int Int h = refl
kind_eq_is (Dec s) (Dec t) h = ap Dec ((Decides-eqb s t).0 h)
kind_eq_is Text Text h = refl
kind_eq_is Flag Flag h = refl
kind_eq_is Int (Dec t) h = absurd (true≢false (sym h))
kind_eq_is Int Text h = absurd (true≢false (sym h))
kind_eq_is Int Flag h = absurd (true≢false (sym h))
kind_eq_is (Dec s) Int h = absurd (true≢false (sym h))
kind_eq_is (Dec s) Text h = absurd (true≢false (sym h))
kind_eq_is (Dec s) Flag h = absurd (true≢false (sym h))
kind_eq_is Text Int h = absurd (true≢false (sym h))
kind_eq_is Text (Dec t) h = absurd (true≢false (sym h))
kind_eq_is Text Flag h = absurd (true≢false (sym h))
kind_eq_is Flag Int h = absurd (true≢false (sym h))
kind_eq_is Flag (Dec t) h = absurd (true≢false (sym h))
kind_eq_is Flag Text h = absurd (true≢false (sym h))

-- each kind passes the test with itself
pub kind_itself : (a : Kind) → kind_eq a a ≡ true
kind_itself Int = refl
kind_itself (Dec s) = (Decides-eqb s s).1 refl
kind_itself Text = refl
kind_itself Flag = refl
