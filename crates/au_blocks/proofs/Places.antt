-- The place of the first item that passes a test.
use Rattle.std.proofs.Common.{◌≡◌, ◌<◌, Bool, true, false, List, [], ◌∷◌, length, Some, None, inl, inr, refl, arith}
use Rattle.std.specs.Prelude.{position}
use Rattle.std.specs.List.{list_any, position_or_len}
use Rattle.std.proofs.lemmas.Bool.{cases_Bool, lt-ltb}

-- where some item passes, it is one of theirs
pub known-place : {X : Type 0} (p : X → Bool) (xs : List X) → list_any p xs ≡ true → position_or_len p xs < length xs
known-place p [] some = cc
known-place p (x ∷ xs) some =
    elim (cases_Bool (p x)) [
      | inl here ↦ rw here (omega arith)
      | inr here ↦
          let later : list_any p xs ≡ true = rw here at some in
          let low : position_or_len p xs < length xs = known-place p xs later in
          rw here (omega arith)
    ]

-- and the length where none does
pub absent-place : {X : Type 0} (p : X → Bool) (xs : List X) → list_any p xs ≡ false → position_or_len p xs ≡ length xs
absent-place p [] absent = refl
absent-place p (x ∷ xs) absent =
    elim (cases_Bool (p x)) [
      | inl here ↦ let t : true ≡ false = rw here at absent in cc
      | inr here ↦
          let later : list_any p xs ≡ false = rw here at absent in
          rw (here, absent-place p xs later) (omega arith)
    ]

-- no place is found where none passes
pub no-position : {X : Type 0} (p : X → Bool) (xs : List X) → position p xs ≡ None → list_any p xs ≡ false
no-position p xs none =
    elim (cases_Bool (list_any p xs)) [
      | inl some ↦
          let low = known-place p xs some in
          let e : position p xs ≡ Some (position_or_len p xs) = rw (lt-ltb (position_or_len p xs) (length xs) low) refl in cc (e, none)
      | inr other ↦ other
    ]
