-- Worked rows of one column.
use Rattle.std.specs.Prelude.{◌≡◌, [], ◌∷◌, pos, negsuc}
use Rattle.au_settled.specs.Settled.{normal_rows}

-- The guesses decide first, and then the lower ends; rows that are equal but for their counts are one.
abbrev pub RowsWorked : Type 0
RowsWorked =
    normal_rows 1
    ((pos 0 ∷ pos 7 ∷ pos 9 ∷ pos 1 ∷ pos 1 ∷ pos 1 ∷ [])
    ∷ (pos 2 ∷ pos 3 ∷ pos 9 ∷ pos 0 ∷ pos 1 ∷ pos 2 ∷ [])
    ∷ (pos 0 ∷ pos 7 ∷ pos 9 ∷ pos 0 ∷ pos 2 ∷ pos 5 ∷ [])
    ∷ (negsuc 0 ∷ pos 3 ∷ pos 9 ∷ pos 1 ∷ pos 1 ∷ pos 1 ∷ [])
    ∷ [])
    ≡ (negsuc 0 ∷ pos 3 ∷ pos 9 ∷ pos 1 ∷ pos 1 ∷ pos 1 ∷ [])
    ∷ (pos 2 ∷ pos 3 ∷ pos 9 ∷ pos 0 ∷ pos 1 ∷ pos 2 ∷ [])
    ∷ (pos 0 ∷ pos 7 ∷ pos 9 ∷ pos 1 ∷ pos 3 ∷ pos 6 ∷ [])
    ∷ []
