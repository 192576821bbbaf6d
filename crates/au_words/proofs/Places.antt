-- Places and elements of mapped lists.
use Rattle.std.proofs.Common.{◌≡◌, Bool, true, false, cond, List, [], ◌∷◌, length, map, refl}
use Rattle.std.specs.Prelude.{position}
use Rattle.std.specs.List.{filter, position_or_len}
use Rattle.std.proofs.lemmas.List.{length-map}

module _ {X Y : Type 0} (p : Y → Bool) (f : X → Y) where
  -- a place in the mapped list is one in the list
  place-map : (xs : List X) → position_or_len p (map f xs) ≡ position_or_len (λ x. p (f x)) xs
  place-map [] = refl
  place-map (x ∷ xs) = rw (place-map xs) refl

  pub position-map : (xs : List X) → position p (map f xs) ≡ position (λ x. p (f x)) xs
  position-map xs = rw (place-map xs, length-map xs f) refl

  -- as many pass
  count_by_case : (b : Bool) (x : X) (xs : List X) → length (filter p (map f xs)) ≡ length (filter (λ y. p (f y)) xs)
      → length (cond b (f x ∷ filter p (map f xs)) (filter p (map f xs))) ≡ length (cond b (x ∷ filter (λ y. p (f y)) xs) (filter (λ y. p (f y)) xs))
  count_by_case true x xs e = rw e refl
  count_by_case false x xs e = e

  pub count-map : (xs : List X) → length (filter p (map f xs)) ≡ length (filter (λ x. p (f x)) xs)
  count-map [] = refl
  count-map (x ∷ xs) = count_by_case (p (f x)) x xs (count-map xs)
