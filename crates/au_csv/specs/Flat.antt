-- Lists that stand one after the other in one list, and where each of them stops.
use Rattle.std.specs.Prelude.{◌-◌, ℕ, List, [], ◌∷◌, take, drop}

-- the lists that stand between a start and each of the stops
unfoldable pub between : {A : Type 0} → ℕ → List ℕ → List A → List (List A)
between start [] xs = []
between start (stop ∷ stops) xs = take (stop - start) (drop start xs) ∷ between stop stops xs
