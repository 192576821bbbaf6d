-- Columns that have the value of an expression on each row.
use Rattle.std.specs.Prelude.{◌≡◌, ◌<◌, ℕ, true, false, List, [], length, map, flat_map, get_or, ℤ, Option, Some, None}
use Rattle.au_expr.specs.Figures.{fit}
use Rattle.au_plain.specs.PTerms.{PTerm}
use Rattle.au_codes.specs.Codes.{Cells, CellRows}
use Rattle.au_codes.specs.CellMeaning.{cell_value}
use Rattle.au_codes.specs.CellNumbers.{cell_numbers}
use Rattle.au_columns.specs.Steps.{number_at}

-- a list has what a function gives of each row
pub record Gives (f : Cells → Option ℤ) (rows : CellRows) (zs : List ℤ) : Type 0 where
  pub len : length zs ≡ length rows
  pub each : (i : ℕ) → i < length rows → f (get_or rows i []) ≡ Some (number_at zs i)

-- it gives nothing of some row
abbrev pub Refuses : (Cells → Option ℤ) → CellRows → Type 0
Refuses f rows = (i : ℕ) × (i < length rows) × (f (get_or rows i []) ≡ None)

-- a list has the value of an expression on each row, and the expression's numbers fit on all of them
pub record IsEvaluated (e : PTerm) (rows : CellRows) (zs : List ℤ) : Type 0 where
  pub values : zs ≡ map (cell_value e) rows
  pub fits : fit (flat_map (cell_numbers e) rows) ≡ true

-- the expression's numbers don't fit on some row
abbrev pub Leaves : PTerm → CellRows → Type 0
Leaves e rows = fit (flat_map (cell_numbers e) rows) ≡ false
