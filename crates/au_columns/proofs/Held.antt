-- Numbers that lie in the range of 128 bits, and what is made of them.
use Rattle.std.specs.Prelude.{◌≡◌, IsTrue, SomeIff, Bool, true, false, ℤ, Option, Some, None, if◌then◌else◌}
use Rattle.std.proofs.Common.{refl, sym, ap, ◌∙◌}
use Rattle.std.proofs.lemmas.Bool.{false≢true}
use Rattle.au_value.specs.Numeral.{is_i128}
use Rattle.au_codes.specs.Careful.{fitting}

-- a number that is held fits
pub held_fits : (z : ℤ) → is_i128 z ≡ true → Some z ≡ fitting z
held_fits z e = λ i. if sym e i then Some z else None

some_if : (b : Bool) (r : Option ℤ) (z : ℤ) → SomeIff r (IsTrue b) z → r ≡ (if b then Some z else None)
some_if true None z h = absurd (h refl)
some_if true (Some x) z h = ap Some h.1
some_if false None z h = refl
some_if false (Some x) z h = absurd (false≢true h.0)

-- what a call answers that refuses numbers past the range
fitting_from : (r : Option ℤ) (z : ℤ) → SomeIff r (IsTrue (is_i128 z)) z → r ≡ fitting z
fitting_from r z h = some_if (is_i128 z) r z h

-- the same, of numbers that went through their bits
pub from_checked : (f : ℤ → ℤ → ℤ) (r : Option ℤ) (m n x y : ℤ) → x ≡ m → y ≡ n → SomeIff r (IsTrue (is_i128 (f x y))) (f x y) → r ≡ fitting (f m n)
from_checked f r m n x y p q h = fitting_from r (f x y) h ∙ (λ j. fitting (f (p j) (q j)))
