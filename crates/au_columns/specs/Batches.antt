-- Batches: rows of cells that lie in columns, from the left. Each column has one number for each row.
use Rattle.std.specs.Prelude.{◌≡◌, ◌<◌, ◌+◌, ℕ, zero, suc, Bool, List, [], ◌∷◌, ◌++◌, length, map, get_or, ℤ, if◌then◌else◌}
use Rattle.std.specs.List.{AllByRecursion, range_with_len}
use Rattle.au_codes.specs.Codes.{Cells, CellRows}
use Rattle.au_codes.specs.CellMeaning.{truth}
use Rattle.au_columns.specs.Steps.{number_at}

-- the row of the cells at a place of the columns
abbrev pub row_at : List (List ℤ) → ℕ → Cells
row_at columns i = map (λ column. number_at column i) columns

-- the rows of columns, of which there are n
abbrev pub rows_of : ℕ → List (List ℤ) → CellRows
rows_of n columns = map (row_at columns) (range_with_len 0 n)

-- each column has n numbers
abbrev pub AreLong : ℕ → List (List ℤ) → Type 0
AreLong n columns = (k : ℕ) → k < length columns → length (get_or columns k []) ≡ n

-- rows with one number more each, on the right
abbrev pub beside : CellRows → List ℤ → CellRows
beside [] zs = []
beside (row ∷ rows) [] = []
beside (row ∷ rows) (z ∷ zs) = (row ++ z ∷ []) ∷ beside rows zs

-- the rows beside which a true flag stands
abbrev pub rows_where : List ℤ → CellRows → CellRows
rows_where [] rows = []
rows_where (z ∷ zs) [] = []
rows_where (z ∷ zs) (row ∷ rows) = if truth z then row ∷ rows_where zs rows else rows_where zs rows

-- the places of true flags, of which the first has the place a
abbrev pub places_where : ℕ → List ℤ → List ℕ
places_where a [] = []
places_where a (z ∷ zs) = if truth z then a ∷ places_where (a + 1) zs else places_where (a + 1) zs

-- 1 for true, and 0 for false, as a count
abbrev pub one_if_true : Bool → ℕ
one_if_true b = if b then 1 else 0

-- the rows of some places
abbrev pub rows_in : CellRows → List ℕ → CellRows
rows_in rows places = map (λ p. get_or rows p []) places

-- rows, each followed by the row of the other list that stands at its place
abbrev pub rows_beside : CellRows → CellRows → CellRows
rows_beside [] bs = []
rows_beside (a ∷ rows) [] = []
rows_beside (a ∷ rows) (b ∷ bs) = (a ++ b) ∷ rows_beside rows bs

-- each row of both lists has as many cells
abbrev pub AreAlike : CellRows → CellRows → Type 0
AreAlike xs ys = (w : ℕ) × AllByRecursion (λ row. length row ≡ w) (xs ++ ys)

-- columns, of which the first n have the numbers of the other at their place behind their own
abbrev pub joined : ℕ → List (List ℤ) → List (List ℤ) → List (List ℤ)
joined zero cs ds = cs
joined (suc n) [] ds = []
joined (suc n) (c ∷ cs) [] = c ∷ cs
joined (suc n) (c ∷ cs) (d ∷ ds) = (c ++ d) ∷ joined n cs ds
