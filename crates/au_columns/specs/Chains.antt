-- Chains: operators that work row by row, over the first table. What each of them makes of some rows, and all of them.
use Rattle.std.specs.Prelude.{◌≡◌, Bool, ◌&&◌, true, false, List, [], ◌∷◌, map, filter, flat_map, ℤ, Result, MatchResult}
use Rattle.std.specs.Borrow.{Bor}
use Rattle.au_expr.specs.declared.fault.EvalFault.{EvalFault}
use Rattle.au_expr.specs.declared.fault.EvalFault.TheVariants as fault
use Rattle.au_expr.specs.Figures.{fit}
use Rattle.au_physical.specs.declared.physical.Physical.{Physical}
use Rattle.au_physical.specs.Physicals.{PhysicalTree, physical_tree}
use Rattle.au_physical.specs.Physicals as physical
use Rattle.au_codes.specs.Codes.{CellRows}
use Rattle.au_codes.specs.CellMeaning.{cells_extended, cells_kept, cells_pass, plan_cells}
use Rattle.au_codes.specs.CellNumbers.{cell_numbers, plan_cell_numbers}

-- a plan's rows over a table, where its numbers fit, and a refusal only where they don't
abbrev pub Ran : PhysicalTree → CellRows → Result CellRows EvalFault → Type 0
Ran p rows result =
    MatchResult result
    (λ made. (made ≡ plan_cells p (rows ∷ [])) × (fit (plan_cell_numbers p (rows ∷ [])) ≡ true))
    (λ f. f ≡ fault.Overflow → fit (plan_cell_numbers p (rows ∷ [])) ≡ false)

-- ---- one operator

-- the plan below the topmost operator, where this works row by row
abbrev pub below : PhysicalTree → List PhysicalTree
below (physical.Scan t w) = []
below (physical.Rows w rows) = []
below (physical.Extend e p) = p ∷ []
below (physical.Keep places p) = p ∷ []
below (physical.Filter e p) = p ∷ []
below (physical.Nested e p q) = []
below (physical.Hash places e p q) = []
below (physical.Overlap at e p q) = []
below (physical.Union p q) = []
below (physical.Group keys aggs p) = []

-- the rows that the topmost operator leaves of some rows, and the numbers that it evaluates
abbrev pub top_cells : PhysicalTree → CellRows → CellRows
top_cells (physical.Scan t w) rows = rows
top_cells (physical.Rows w list) rows = rows
top_cells (physical.Extend e p) rows = map (cells_extended e) rows
top_cells (physical.Keep places p) rows = map (cells_kept places) rows
top_cells (physical.Filter e p) rows = filter (cells_pass e) rows
top_cells (physical.Nested e p q) rows = rows
top_cells (physical.Hash places e p q) rows = rows
top_cells (physical.Overlap at e p q) rows = rows
top_cells (physical.Union p q) rows = rows
top_cells (physical.Group keys aggs p) rows = rows

abbrev pub top_numbers : PhysicalTree → CellRows → List ℤ
top_numbers (physical.Scan t w) rows = []
top_numbers (physical.Rows w list) rows = []
top_numbers (physical.Extend e p) rows = flat_map (cell_numbers e) rows
top_numbers (physical.Keep places p) rows = []
top_numbers (physical.Filter e p) rows = flat_map (cell_numbers e) rows
top_numbers (physical.Nested e p q) rows = []
top_numbers (physical.Hash places e p q) rows = []
top_numbers (physical.Overlap at e p q) rows = []
top_numbers (physical.Union p q) rows = []
top_numbers (physical.Group keys aggs p) rows = []

abbrev pub Worked : PhysicalTree → CellRows → Result CellRows EvalFault → Type 0
Worked p rows result =
    MatchResult result (λ made. (made ≡ top_cells p rows) × (fit (top_numbers p rows) ≡ true)) (λ f. f ≡ fault.Overflow → fit (top_numbers p rows) ≡ false)

-- ---- all of them, the topmost first

-- the plans that are lent
abbrev pub lent_trees : List (Bor Physical) → List PhysicalTree
lent_trees plans = map (λ p. physical_tree p.now) plans

-- a plan and those below it, as far down as the topmost operator works row by row
abbrev pub downward : PhysicalTree → List PhysicalTree
downward (physical.Scan t w) = []
downward (physical.Rows w rows) = []
downward (physical.Extend e p) = physical.Extend e p ∷ downward p
downward (physical.Keep places p) = physical.Keep places p ∷ downward p
downward (physical.Filter e p) = physical.Filter e p ∷ downward p
downward (physical.Nested e p q) = []
downward (physical.Hash places e p q) = []
downward (physical.Overlap at e p q) = []
downward (physical.Union p q) = []
downward (physical.Group keys aggs p) = []

-- the rows that their topmost operators leave of some rows, the last one working first, and whether all numbers fit
abbrev pub all_cells : List PhysicalTree → CellRows → CellRows
all_cells [] rows = rows
all_cells (p ∷ ps) rows = top_cells p (all_cells ps rows)

abbrev pub all_fit : List PhysicalTree → CellRows → Bool
all_fit [] rows = true
all_fit (p ∷ ps) rows = all_fit ps rows && fit (top_numbers p (all_cells ps rows))

abbrev pub WorkedAll : List PhysicalTree → CellRows → Result CellRows EvalFault → Type 0
WorkedAll ps rows result =
    MatchResult result (λ made. (made ≡ all_cells ps rows) × (all_fit ps rows ≡ true)) (λ f. f ≡ fault.Overflow → all_fit ps rows ≡ false)
