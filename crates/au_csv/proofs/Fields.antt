-- The fields of a record from the left, as its iterator gives them, at their places, and as texts.
use Rattle.std.proofs.Common.{◌≡◌, ℕ, zero, suc, ◌+◌, ◌-◌, ◌<◌, ◌∙◌, true, false, List, [], ◌∷◌, ◌++◌, take, drop, Some, None, inl, inr, refl, ap, sym, subst, arith}
use Rattle.std.specs.Prelude.{slice_get}
use Rattle.std.specs.Str.{is_utf8}
use Rattle.std.proofs.lemmas.Bool.{cases_Bool, and_parts}
use Rattle.std.proofs.lemmas.List.{take_more}
use Rattle.std.proofs.lemmas.Option.{get_or_from_slice_get, slice_get_within}
use Rattle.std.proofs.lemmas.Str.{is_utf8-from_IsUtf8, IsUtf8-from_is_utf8}
use Rattle.csv.specs.Records.{AllText, field_at}
use Rattle.au_csv.specs.Texts.{is_text}
use Rattle.au_csv.proofs.Between.{slice_get-take, slice_get-drop}

suc-add-one : (i : ℕ) → suc (i + 1) ≡ suc i + 1
suc-add-one i = omega arith

-- one field more
pub take-field_at : (xs : List (List ℕ)) (i : ℕ) (f : List ℕ) → field_at xs i ≡ Some f → take (i + 1) xs ≡ take i xs ++ f ∷ []
unfolding field_at
take-field_at [] i f is = cc
take-field_at (x ∷ xs) zero f is = let e : x ≡ f = cc in ap (λ y. y ∷ []) e
take-field_at (x ∷ xs) (suc i) f is =
    let more : take (i + 1) xs ≡ take i xs ++ f ∷ [] = take-field_at xs i f is in
    subst (λ n. take n (x ∷ xs) ≡ x ∷ take i xs ++ f ∷ []) (suc-add-one i) (ap (λ r. x ∷ r) more)

-- no field more
pub take-field_at_end : (xs : List (List ℕ)) (i : ℕ) → field_at xs i ≡ None → take i xs ≡ xs
unfolding field_at
take-field_at_end [] zero is = refl
take-field_at_end [] (suc i) is = refl
take-field_at_end (x ∷ xs) zero is = cc
take-field_at_end (x ∷ xs) (suc i) is = ap (λ r. x ∷ r) (take-field_at_end xs i is)

-- one field more, by its place
pub take-slice_get : (xs : List (List ℕ)) (i : ℕ) (f : List ℕ) → slice_get xs i ≡ Some f → take (i + 1) xs ≡ take i xs ++ f ∷ []
take-slice_get xs i f is =
    rw (take_more xs i f (slice_get_within xs i f is), get_or_from_slice_get xs i f f is) refl

-- the field at a place is that of the list
field_at-slice_get : (xs : List (List ℕ)) (i : ℕ) → field_at xs i ≡ slice_get xs i
unfolding field_at
field_at-slice_get [] zero = refl
field_at-slice_get [] (suc i) = refl
field_at-slice_get (x ∷ xs) zero = refl
field_at-slice_get (x ∷ xs) (suc i) = field_at-slice_get xs i

-- the field at a place among those between two places
pub field_at-between : (start stop i : ℕ) (xs : List (List ℕ)) → i < stop - start → field_at xs (start + i) ≡ slice_get (take (stop - start) (drop start xs)) i
field_at-between start stop i xs lt =
    field_at-slice_get xs (start + i) ∙ sym (slice_get-take (stop - start) i (drop start xs) lt ∙ slice_get-drop start i xs)

-- fields that are text pass the test, and those that pass are text
pub text-passes : (xs : List (List ℕ)) → AllText xs → is_text xs ≡ true
unfolding AllText
text-passes [] text = refl
text-passes (x ∷ xs) text = rw (is_utf8-from_IsUtf8 x text.0, text-passes xs text.1) refl

pub passes-text : (xs : List (List ℕ)) → is_text xs ≡ true → AllText xs
unfolding AllText
passes-text [] pass = tt
passes-text (x ∷ xs) pass =
    let parts = and_parts (is_utf8 x) (is_text xs) pass in
    (IsUtf8-from_is_utf8 x parts.0, passes-text xs parts.1)

pub not-passes : (xs : List (List ℕ)) → (AllText xs → ⊥) → is_text xs ≡ false
not-passes xs other =
    elim (cases_Bool (is_text xs)) [
      | inl pass ↦ absurd (other (passes-text xs pass))
      | inr fails ↦ fails
    ]
