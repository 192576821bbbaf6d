-- An item that passes a test, as one is found that passes a narrower one.
use Rattle.std.specs.Prelude.{◌≡◌, Bool, true, false, cond, List, [], ◌∷◌, filter}
use Rattle.std.specs.List.{AllByRecursion}
use Rattle.std.proofs.Common.{refl, ◌∙◌, ap}

-- a first one that passes
pub record Found {A : Type 0} (p : A → Bool) (xs : List A) : Type 0 where
  pub first : A
  pub others : List A
  pub is : filter p xs ≡ first ∷ others

module _ {A : Type 0} (V : A → Type 0) (p q : A → Bool) (implied : (x : A) → V x → p x ≡ true → q x ≡ true) where
  found_first : (x : A) (xs : List A) → q x ≡ true → Found q (x ∷ xs)
  found_first x xs e = record { first = x; others = filter q xs; is = ap (λ b. cond b (x ∷ filter q xs) (filter q xs)) e }

  found_by : (b : Bool) (x : A) (xs : List A) → q x ≡ b → Found q xs → Found q (x ∷ xs)
  found_by true x xs e f = found_first x xs e
  found_by false x xs e f = record { first = f.first; others = f.others; is = ap (λ b. cond b (x ∷ filter q xs) (filter q xs)) e ∙ f.is }

  narrow_by : (b : Bool) (x : A) (xs : List A) → p x ≡ b → (p x ≡ true → q x ≡ true) → (first : A) (others : List A) → cond b (x ∷ filter p xs) (filter p xs) ≡ first ∷ others → ((g : A) (gs : List A) → filter p xs ≡ g ∷ gs → Found q xs) → Found q (x ∷ xs)
  narrow_by true x xs e h first others is rest = found_first x xs (h e)
  narrow_by false x xs e h first others is rest = found_by (q x) x xs refl (rest first others is)

  -- where one passes the narrower test, one passes the wider
  pub found_from : (xs : List A) → AllByRecursion V xs → (first : A) (others : List A) → filter p xs ≡ first ∷ others → Found q xs
  found_from [] v first others is = cc
  found_from (x ∷ xs) v first others is = narrow_by (p x) x xs refl (implied x v.0) first others is (λ g gs e. found_from xs v.1 g gs e)
