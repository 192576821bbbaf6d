-- Rows that are held, and how wide the first is.
use Rattle.std.specs.Prelude.{ℕ, List, [], ◌∷◌, Vec, length, map}
use Rattle.std.specs.declared.alloc.Global.{Global}
use Rattle.au_value.specs.declared.value.Value.{Value}
use Rattle.au_algebra.specs.Ordinary.{Rows}

abbrev pub rows_of : Vec (Vec Value Global) Global → Rows
rows_of held = map (λ row. row.items) held.items

-- the same of rows that are lent
abbrev pub lent_rows : List (Vec Value Global) → Rows
lent_rows rows = map (λ row. row.items) rows

-- the width of the first row, and 0 of none
abbrev pub first_width : Rows → ℕ
first_width [] = 0
first_width (row ∷ rows) = length row

-- the first row, and an empty one of none
abbrev pub first_row : Rows → List Value
first_row [] = []
first_row (row ∷ rows) = row
