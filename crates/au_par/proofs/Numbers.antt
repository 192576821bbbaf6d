-- A list whose numbers rise, and which has each number below a bound once, has them in order.
use Rattle.std.proofs.Common.{◌≡◌, ◌≢◌, ℕ, zero, suc, ◌+◌, ◌<◌, ◌≤◌, Bool, List, [], ◌∷◌, map, length, get_or, sym, refl, ap, ◌∙◌, arith, eq-eqb, ne_eqb, ◌==◌, if◌then◌else◌, IsPermutation, sum_by}
use mathlib.Core.Logic.{dite}
use native.Mathlib.Decide.{ℕ_discrete, dec_lt}
use Rattle.std.proofs.lemmas.List.Sorted.{sum_by-IsPermutation}
use Rattle.std.proofs.lemmas.List.Sums.{sum_by-cons}
use Rattle.std.specs.List.Sorted.{IsNonDecreasingBy}
use Rattle.au_board.specs.Draws.{times, once_below}
use Rattle.au_board.proofs.Once.{once_inside, once_outside}

abbrev one_if : Bool → ℕ
one_if b = if b then 1 else 0

one_here : (x y : ℕ) → y ≡ x → one_if (y == x) ≡ 1
one_here x y e = ap one_if (eq-eqb y x e)

none_here : (x y : ℕ) → y ≢ x → one_if (y == x) ≡ 0
none_here x y ne = ap one_if (ne_eqb y x ne)

times-sum : (x : ℕ) (xs : List ℕ) → times x xs ≡ sum_by (λ (y : ℕ). one_if (y == x)) xs
times-sum x [] = refl
times-sum x (y ∷ ys) = ap (λ (n : ℕ). one_if (y == x) + n) (times-sum x ys) ∙ sym (sum_by-cons (λ (z : ℕ). one_if (z == x)) y ys)

-- how often a number stands in a list doesn't depend on the order
pub times-permuted : (x : ℕ) (xs ys : List ℕ) → IsPermutation xs ys → times x ys ≡ times x xs
times-permuted x xs ys same = times-sum x ys ∙ (sum_by-IsPermutation (λ (y : ℕ). one_if (y == x)) xs ys same ∙ sym (times-sum x xs))

module _ {X : Type 0} (n : X → ℕ) where
  -- a number that stands in the list is at least what all are
  least : (b x : ℕ) (es : List X) → ((k : ℕ) (d : X) → k < length es → b ≤ n (get_or es k d)) → 0 < times x (map n es) → b ≤ x
  least b x [] each stands = absurd (omega arith)
  least b x (e ∷ es) each stands = dite (ℕ_discrete (n e) x)
      (λ is. let first = each zero e (omega arith) in omega arith)
      (λ ne. let other = none_here x (n e) ne in least b x es (λ k d below. each (suc k) d (omega arith)) (omega arith))

  pub numbered : (from bound : ℕ) (es : List X) → from ≤ bound → IsNonDecreasingBy n es
      → ((x : ℕ) → x < from → times x (map n es) ≡ 0)
      → ((x : ℕ) → from ≤ x → times x (map n es) ≡ once_below x bound)
      → (from + length es ≡ bound) × ((k : ℕ) (d : X) → k < length es → n (get_or es k d) ≡ from + k)
  numbered from bound [] room rises before after = dite (dec_lt from bound)
      (λ below. let none = after from (omega arith) in let one = once_inside from bound below in absurd (omega arith))
      (λ not. (omega arith, λ k d below. absurd (omega arith)))
  numbered from bound (e ∷ es) room rises before after =
      let here = one_here (n e) (n e) refl in
      let high : from ≤ n e = dite (dec_lt (n e) from) (λ lower. let none = before (n e) lower in absurd (omega arith)) (λ not. omega arith) in
      let low : n e < bound = dite (dec_lt (n e) bound) (λ below. below) (λ not. let some = after (n e) high in let none = once_outside (n e) bound (omega arith) in absurd (omega arith)) in
      let stands = after from (omega arith) in
      let one = once_inside from bound (omega arith) in
      let first : n e ≤ from = least (n e) from (e ∷ es) (λ k d below. rises zero k d (omega arith) below) (omega arith) in
      let is : n e ≡ from = omega arith in
      let rest = numbered (from + 1) bound es (omega arith)
      (λ i j d order below. rises (suc i) (suc j) d (omega arith) (omega arith))
      (λ x lower. dite (ℕ_discrete (n e) x)
      (λ same. let h = one_here x (n e) same in let total = after x (omega arith) in let o = once_inside x bound (omega arith) in omega arith)
      (λ ne. let total = before x (omega arith) in omega arith))
      (λ x higher. let h = none_here x (n e) (λ same. absurd (omega arith)) in let total = after x (omega arith) in omega arith) in
      let count = rest.0 in
      (omega arith, place from e es is rest.1)
    where
      place : (from : ℕ) (e : X) (es : List X) → n e ≡ from → ((k : ℕ) (d : X) → k < length es → n (get_or es k d) ≡ from + 1 + k) → (k : ℕ) (d : X) → k < length (e ∷ es) → n (get_or (e ∷ es) k d) ≡ from + k
      place from e es is rest zero d below = omega arith
      place from e es is rest (suc k) d below = let next = rest k d (omega arith) in omega arith
