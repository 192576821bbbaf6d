-- Numbers that are written one by one, or taken from places.
use Rattle.std.specs.Prelude.{◌≡◌, ◌<◌, ◌+◌, ℕ, List, length, map, ℤ, pos}
use Rattle.std.proofs.Common.{sym, subst, ◌∙◌, arith, set}
use Rattle.std.proofs.lemmas.List.{ext_get_or, get_or-map, get_or-set_other, get_or-set_same, length-map}
use borrow.Author.Count.{below_more}
use Rattle.au_columns.specs.Steps.{AreGathered, number_at}

-- a list of as many numbers as places, each of which is the one of its place
pub gathered : (xs : List ℤ) (places : List ℕ) (zs : List ℤ) → length zs ≡ length places → AreGathered (length zs) xs places zs → zs ≡ map (number_at xs) places
gathered xs places zs len each =
    ext_get_or (pos 0) zs (map (number_at xs) places) (len ∙ sym (length-map places (number_at xs)))
    (λ i below. each i below ∙ sym (get_or-map (number_at xs) places i 0 (pos 0) (omega (arith, len, below))))

-- one number more, at its place
pub one_more : (P : ℕ → ℤ → Type 0) (zs : List ℤ) (i : ℕ) (z : ℤ) → i < length zs → ((k : ℕ) → k < i → P k (number_at zs k)) → P i z → (k : ℕ) → k < i + 1 → P k (number_at (set zs i z) k)
one_more P zs i z within before here =
    below_more (λ k. P k (number_at (set zs i z) k)) i
    (λ k l. subst (P k) (sym (get_or-set_other zs i k z (pos 0) (λ e. omega (arith, e, l)))) (before k l))
    (subst (P i) (sym (get_or-set_same zs i z (pos 0) within)) here)
