-- The distinct items of a list, one after another, by a test that decides equality.
use Rattle.std.proofs.Common.{◌≡◌, Bool, true, false, cond, ◌||◌, List, [], ◌∷◌, ◌++◌, Decides, inl, inr, refl, ap, ◌∙◌, subst}
use Rattle.std.specs.Prelude.{not, filter}
use Rattle.std.specs.List.{list_any}
use Rattle.std.specs.Cmp.{decided}
use Rattle.std.proofs.lemmas.Bool.{cases_Bool}
use Rattle.std.proofs.lemmas.List.{append-nil}
use Rattle.std.proofs.lemmas.List.Elements.{filter-append}
use Rattle.au_value.specs.Lists.{distinct}

-- the items without one
abbrev pub others : {A : Type 0} → (A → A → Bool) → A → List A → List A
others eq x xs = filter (λ y. not (eq x y)) xs

-- the items and one more, if it is not among them
abbrev pub with_one : {A : Type 0} → (A → A → Bool) → List A → A → List A
with_one eq xs y = cond (list_any (eq y) xs) xs (xs ++ y ∷ [])

-- no item stands twice
pub data Apart {A : Type 0} (eq : A → A → Bool) : List A → Type 0 where
  none : Apart eq []
  one : {x : A} {xs : List A} → list_any (eq x) xs ≡ false → Apart eq xs → Apart eq (x ∷ xs)

module _ {A : Type 0} (eq : A → A → Bool) where
  any-filter : (p : A → Bool) (z : A) (xs : List A) → list_any (eq z) xs ≡ false → list_any (eq z) (filter p xs) ≡ false
  any-filter p z [] absent = refl
  any-filter p z (x ∷ xs) absent =
      elim (cases_Bool (eq z x)) [
        | inl here ↦ let t = rw here at absent in cc
        | inr here ↦
            let later : list_any (eq z) xs ≡ false = rw here at absent in
            elim (p x) as (λ b. list_any (eq z) (cond b (x ∷ filter p xs) (filter p xs)) ≡ false) [
              | true ↦ rw here (any-filter p z xs later)
              | false ↦ any-filter p z xs later
            ]
      ]

  apart-filter : (p : A → Bool) {xs : List A} → Apart eq xs → Apart eq (filter p xs)
  apart-filter p none = none
  apart-filter p (one {x} {xs} h t) =
      elim (p x) as (λ b. Apart eq (cond b (x ∷ filter p xs) (filter p xs))) [
        | true ↦ one (any-filter p x xs h) (apart-filter p t)
        | false ↦ apart-filter p t
      ]

  none-others : (x : A) (xs : List A) → list_any (eq x) (others eq x xs) ≡ false
  none-others x [] = refl
  none-others x (y ∷ xs) =
      elim (cases_Bool (eq x y)) [
        | inl here ↦ rw here (none-others x xs)
        | inr here ↦ rw (here, here) (none-others x xs)
      ]

  pub apart-distinct : (xs : List A) → Apart eq (distinct eq xs)
  apart-distinct [] = none
  apart-distinct (x ∷ xs) = one (none-others x (distinct eq xs)) (apart-filter (λ y. not (eq x y)) (apart-distinct xs))

module _ {A : Type 0} (eq : A → A → Bool) (decides : (x y : A) → Decides (eq x y) (x ≡ y)) where
  turned : (x y : A) → eq x y ≡ eq y x
  turned x y = (decided eq decides).symm x y

  any-others : (x z : A) (xs : List A) → eq x z ≡ false → list_any (eq z) (others eq x xs) ≡ list_any (eq z) xs
  any-others x z [] apart = refl
  any-others x z (y ∷ xs) apart =
      elim (cases_Bool (eq x y)) [
        | inl here ↦
            let e : x ≡ y = (decides x y).0 here in
            let no : eq z y ≡ false = turned z y ∙ subst (λ w. eq w z ≡ false) e apart in
            rw (here, no) (any-others x z xs apart)
        | inr here ↦ rw here (ap (λ b. eq z y || b) (any-others x z xs apart))
      ]

  -- the distinct items are those of the list
  pub any-distinct : (z : A) (xs : List A) → list_any (eq z) (distinct eq xs) ≡ list_any (eq z) xs
  any-distinct z [] = refl
  any-distinct z (x ∷ xs) =
      elim (cases_Bool (eq z x)) [
        | inl here ↦ rw here refl
        | inr here ↦ rw here (any-others x z (distinct eq xs) (turned x z ∙ here) ∙ any-distinct z xs)
      ]

  -- an item more
  others-insert : (x y : A) (xs : List A) → eq x y ≡ false → others eq x (with_one eq xs y) ≡ with_one eq (others eq x xs) y
  others-insert x y xs apart =
      rw (any-others x y xs apart)
      (elim (list_any (eq y) xs) as (λ b. others eq x (cond b xs (xs ++ y ∷ [])) ≡ cond b (others eq x xs) (others eq x xs ++ y ∷ [])) [
        | true ↦ refl
        | false ↦ filter-append (λ z. not (eq x z)) xs (y ∷ []) ∙ rw apart refl
      ])

  others-same : (x y : A) (xs : List A) → eq x y ≡ true → others eq x (with_one eq xs y) ≡ others eq x xs
  others-same x y xs here =
      elim (list_any (eq y) xs) as (λ b. others eq x (cond b xs (xs ++ y ∷ [])) ≡ others eq x xs) [
        | true ↦ refl
        | false ↦ filter-append (λ z. not (eq x z)) xs (y ∷ []) ∙ rw here (append-nil (others eq x xs))
      ]

  pub distinct-last : (xs : List A) (y : A) → distinct eq (xs ++ y ∷ []) ≡ with_one eq (distinct eq xs) y
  distinct-last [] y = refl
  distinct-last (x ∷ xs) y =
      elim (cases_Bool (eq x y)) [
        | inl here ↦ rw (distinct-last xs y, others-same x y (distinct eq xs) here, turned y x, here) refl
        | inr here ↦
            rw (distinct-last xs y, others-insert x y (distinct eq xs) here, turned y x, here)
            (elim (list_any (eq y) (others eq x (distinct eq xs))) as (λ b. x ∷ cond b (others eq x (distinct eq xs)) (others eq x (distinct eq xs) ++ y ∷ []) ≡ cond b (x ∷ others eq x (distinct eq xs)) (x ∷ others eq x (distinct eq xs) ++ y ∷ [])) [
              | true ↦ refl
              | false ↦ refl
            ])
      ]
