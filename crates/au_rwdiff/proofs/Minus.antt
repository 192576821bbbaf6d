-- A difference of two counts that fit.
use Rattle.std.specs.Prelude.{◌≡◌, ◌≤◌, ℕ, ◌-◌, ◌^◌, [], ◌∷◌, pos, ◌-ℤ◌, true}
use Rattle.std.proofs.Common.{arith, refl}
use Rattle.std.proofs.lemmas.Bool.{and_from, and_parts, leb-true}
use Rattle.au_value.specs.Numeral.{is_i128}
use Rattle.au_expr.specs.Figures.{Fit}

count_at_most : (n : ℕ) → Fit (pos n ∷ []) → n ≤ 2 ^ 127 - 1
count_at_most n f = leb-true n (2 ^ 127 - 1) (and_parts _ _ f).0

minus_range : (a b m : ℕ) → a ≤ m → b ≤ m → m ≡ 2 ^ 127 - 1 → is_i128 (pos a -ℤ pos b) ≡ true
minus_range a b m p q e = grind (arith, p, q, e)

pub minus_fits : (a b : ℕ) → Fit (pos a ∷ []) → Fit (pos b ∷ []) → Fit ((pos a -ℤ pos b) ∷ [])
minus_fits a b f g = and_from _ _ (minus_range a b (2 ^ 127 - 1) (count_at_most a f) (count_at_most b g) refl) refl
