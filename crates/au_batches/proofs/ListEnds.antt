-- The least and the greatest of a list, one item after the other.
use Rattle.std.proofs.Common.{◌≡◌, ℕ, ◌+◌, ◌<◌, List, ◌∷◌, length, map, drop, get_or}
use Rattle.std.proofs.lemmas.Option.{slice_get-get_or}
use Rattle.au_value.specs.declared.value.Value.{Value}
use Rattle.au_value.specs.Ranges.{greater, lesser}
use Rattle.au_algebra.specs.Lists.{greatest, least}
use Rattle.au_translate.proofs.Ends.{next_greatest, next_least}

module _ {X : Type 0} (f : X → Value) (xs : List X) (i : ℕ) (d : X) (within : i < length xs) where
  pub more_least : (best found all : Value) → found ≡ lesser best (f (get_or xs i d)) → least (best ∷ map f (drop i xs)) ≡ all → least (found ∷ map f (drop (i + 1) xs)) ≡ all
  more_least best found all e h = next_least f xs i (get_or xs i d) (slice_get-get_or xs i d within) best found all e h

  pub more_greatest : (best found all : Value) → found ≡ greater best (f (get_or xs i d)) → greatest (best ∷ map f (drop i xs)) ≡ all → greatest (found ∷ map f (drop (i + 1) xs)) ≡ all
  more_greatest best found all e h = next_greatest f xs i (get_or xs i d) (slice_get-get_or xs i d within) best found all e h
