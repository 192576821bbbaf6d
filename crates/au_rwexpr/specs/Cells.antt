-- Lists of places in a row.
use Rattle.std.specs.Prelude.{ℕ, zero, suc, ◌+◌, List, [], ◌∷◌}

-- three places from one on
abbrev pub three_places : ℕ → List ℕ
three_places i = i ∷ (i + 1) ∷ (i + 2) ∷ []

-- the places of so many ranges from one on
abbrev pub cell_places : ℕ → ℕ → List ℕ
cell_places i zero = []
cell_places i (suc c) = i ∷ (i + 1) ∷ (i + 2) ∷ cell_places (i + 3) c

-- so many places from one on
abbrev pub run : ℕ → ℕ → List ℕ
run i zero = []
run i (suc n) = i ∷ run (i + 1) n
