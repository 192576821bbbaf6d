-- The first record that isn't text.
use Rattle.std.proofs.Common.{◌≡◌, ◌<◌, Bool, true, false, List, [], ◌∷◌, ◌++◌, length, Some, None, refl, arith}
use Rattle.std.specs.Prelude.{not, position}
use Rattle.std.specs.List.{list_all, position_or_len}
use Rattle.std.proofs.lemmas.Bool.{and_parts, lt-ltb, le-ltb}
use Rattle.std.proofs.lemmas.List.{length-append}

-- the first that fails a test stands behind those that pass it
position_or_len-first : {X : Type 0} (p : X → Bool) (xs ys : List X) (x : X) → list_all p xs ≡ true → p x ≡ false
    → position_or_len (λ z. not (p z)) (xs ++ x ∷ ys) ≡ length xs
position_or_len-first p [] ys x pass fails = rw fails refl
position_or_len-first p (z ∷ xs) ys x pass fails =
    let parts = and_parts (p z) (list_all p xs) pass in
    let later : position_or_len (λ z. not (p z)) (xs ++ x ∷ ys) ≡ length xs = position_or_len-first p xs ys x parts.1 fails in
    rw (parts.0, later) (omega arith)

pub position-first : {X : Type 0} (p : X → Bool) (xs ys : List X) (x : X) → list_all p xs ≡ true → p x ≡ false
    → position (λ z. not (p z)) (xs ++ x ∷ ys) ≡ Some (length xs)
position-first p xs ys x pass fails =
    let at = position_or_len-first p xs ys x pass fails in
    let within : length xs < length (xs ++ x ∷ ys) = rw (length-append xs (x ∷ ys)) (omega arith) in
    rw (at, lt-ltb (length xs) (length (xs ++ x ∷ ys)) within) refl

-- there is none where each passes
position_or_len-all : {X : Type 0} (p : X → Bool) (xs : List X) → list_all p xs ≡ true → position_or_len (λ z. not (p z)) xs ≡ length xs
position_or_len-all p [] pass = refl
position_or_len-all p (z ∷ xs) pass =
    let parts = and_parts (p z) (list_all p xs) pass in
    let later : position_or_len (λ z. not (p z)) xs ≡ length xs = position_or_len-all p xs parts.1 in
    rw (parts.0, later) (omega arith)

pub position-none : {X : Type 0} (p : X → Bool) (xs : List X) → list_all p xs ≡ true → position (λ z. not (p z)) xs ≡ None
position-none p xs pass = rw (position_or_len-all p xs pass, le-ltb (length xs) (length xs) (omega arith)) refl
