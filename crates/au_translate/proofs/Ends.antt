-- The least and the greatest of some values, one value after the other.
use Rattle.std.specs.Prelude.{◌≡◌, ℕ, zero, suc, ◌+◌, List, [], ◌∷◌, drop, length, map, slice_get, Some}
use Rattle.std.proofs.Common.{arith, refl, sym, ◌∙◌, ap}
use Rattle.au_value.specs.declared.value.Value.{Value}
use Rattle.au_value.specs.Ranges.{lesser, greater}
use Rattle.au_value.proofs.RangeLaws.{lesser_assoc, greater_assoc}
use Rattle.au_algebra.specs.Lists.{least, greatest}
use Rattle.au_translate.proofs.Places.{left_at}

-- the first two values may be put into one
least_two : (a b : Value) (vs : List Value) → least (a ∷ b ∷ vs) ≡ least (lesser a b ∷ vs)
least_two a b [] = refl
least_two a b (v ∷ vs) = lesser_assoc a b (least (v ∷ vs))

greatest_two : (a b : Value) (vs : List Value) → greatest (a ∷ b ∷ vs) ≡ greatest (greater a b ∷ vs)
greatest_two a b [] = refl
greatest_two a b (v ∷ vs) = greater_assoc a b (greatest (v ∷ vs))

-- one item more
module _ {X : Type 0} (f : X → Value) (alternatives : List X) (i : ℕ) (a : X) (at : slice_get alternatives i ≡ Some a) where
  pub next_least : (best found all : Value) → found ≡ lesser best (f a) → least (best ∷ map f (drop i alternatives)) ≡ all → least (found ∷ map f (drop (i + 1) alternatives)) ≡ all
  next_least best found all e h =
      let others = map f (drop (i + 1) alternatives) in
      ap (λ x. least (x ∷ others)) e ∙ sym (least_two best (f a) others) ∙ ap (λ rs. least (best ∷ map f rs)) (sym (left_at alternatives i a at)) ∙ h

  pub next_greatest : (best found all : Value) → found ≡ greater best (f a) → greatest (best ∷ map f (drop i alternatives)) ≡ all → greatest (found ∷ map f (drop (i + 1) alternatives)) ≡ all
  next_greatest best found all e h =
      let others = map f (drop (i + 1) alternatives) in
      ap (λ x. greatest (x ∷ others)) e ∙ sym (greatest_two best (f a) others) ∙ ap (λ rs. greatest (best ∷ map f rs)) (sym (left_at alternatives i a at)) ∙ h

-- of one item
pub only_one : {X : Type 0} (f : X → Value) (xs : List X) (i : ℕ) (x : X) → length xs ≡ 1 → slice_get xs i ≡ Some x → map f xs ≡ f x ∷ []
only_one f [] i x one at = let never : ⊥ = omega (arith, one) in absurd never
only_one f (y ∷ []) zero x one at = let same : y ≡ x = cc in ap (λ z. f z ∷ []) same
only_one f (y ∷ []) (suc i) x one at = cc
only_one f (y ∷ z ∷ xs) i x one at = let never : ⊥ = omega (arith, one) in absurd never
