-- What takes any row takes all rows.
use Rattle.std.specs.Prelude.{List, [], ◌∷◌, ⊤}
use Rattle.std.specs.List.{AllByRecursion}

pub all_taken : {X : Type 0} (xs : List X) → AllByRecursion (λ _. ⊤) xs
all_taken [] = tt
all_taken (x ∷ xs) = (tt, all_taken xs)
