-- Rows that are written out, cell by cell.
use Rattle.std.specs.Prelude.{◌≡◌, ◌<◌, ◌≤◌, ◌+◌, ℕ, zero, suc, List, [], ◌∷◌, ◌++◌, length, map, get_or, replicate, take, ℤ, pos, Vec}
use Rattle.std.specs.declared.alloc.Global.{Global}
use Rattle.std.proofs.Common.{refl, sym, ap, ◌∙◌, arith}
use Rattle.std.proofs.lemmas.List.{length-map, take_all, take_more}
use Rattle.au_value.specs.declared.value.Value.{Value}
use Rattle.au_codes.specs.Codes.{Cells, CellRows}
use Rattle.au_codes.specs.CellMeaning.{cell, cell_in}
use Rattle.au_columns.specs.Batches.{beside}
use Rattle.au_vector.specs.Widths.{HaveWidth}

abbrev pub Row : Type 0
Row = Vec Value Global

-- the cells of rows as they are held
abbrev pub cells_of : List Row → CellRows
cells_of rows = map (map cell) (map (λ (row : Row). row.items) rows)

cell_is : (row : Cells) (i : ℕ) → cell_in row i ≡ get_or row i (pos 0)
cell_is [] zero = refl
cell_is [] (suc i) = refl
cell_is (z ∷ row) zero = refl
cell_is (z ∷ row) (suc i) = cell_is row i

-- a column of them
pub column_is : (place : ℕ) (rows : List Row) → map (λ (row : Row). cell_in (map cell row.items) place) rows ≡ map (λ (row : Cells). cell_in row place) (cells_of rows)
column_is place [] = refl
column_is place (row ∷ rows) = ap (λ (zs : List ℤ). cell_in (map cell row.items) place ∷ zs) (column_is place rows)

-- the fronts of rows, from none to all of them
pub no_fronts : (rows : List Row) → replicate (length rows) [] ≡ map (take 0) (cells_of rows)
no_fronts [] = refl
no_fronts (row ∷ rows) = ap (λ (made : CellRows). [] ∷ made) (no_fronts rows)

pub next_fronts : (w p : ℕ) (rows : List Row) → p < w → HaveWidth w (map (λ (row : Row). row.items) rows)
    → beside (map (take p) (cells_of rows)) (map (λ (row : Cells). cell_in row p) (cells_of rows)) ≡ map (take (p + 1)) (cells_of rows)
next_fronts w p [] below h = refl
next_fronts w p (row ∷ rows) below h =
    let cells = map cell row.items in
    let long : p < length cells = omega (arith, h.0, below, length-map row.items cell) in
    λ j. (ap (λ (z : ℤ). take p cells ++ z ∷ []) (cell_is cells p) ∙ sym (take_more cells p (pos 0) long)) j ∷ next_fronts w p rows below h.1 j

pub all_fronts : (w p : ℕ) (rows : List Row) → w ≤ p → HaveWidth w (map (λ (row : Row). row.items) rows) → map (take p) (cells_of rows) ≡ cells_of rows
all_fronts w p [] past h = refl
all_fronts w p (row ∷ rows) past h =
    let cells = map cell row.items in
    λ j. take_all p cells (omega (arith, h.0, past, length-map row.items cell)) j ∷ all_fronts w p rows past h.1 j
