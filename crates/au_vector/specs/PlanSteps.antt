-- The steps of a plan: operators that work row by row, over the rows that are found below them. Those of a join are the pairs
-- that it finds before its condition is tested, which is then the lowest step.
use Rattle.std.specs.Prelude.{ℕ, ◌+◌, Bool, ◌&&◌, List, [], ◌∷◌, ◌++◌}
use Rattle.au_expr.specs.Figures.{fit}
use Rattle.au_physical.specs.Physicals.{PhysicalTree}
use Rattle.au_physical.specs.Physicals as physical
use Rattle.au_codes.specs.Codes.{CellRows}
use Rattle.au_codes.specs.CellMeaning.{cells_by_range, plan_cells}
use Rattle.au_codes.specs.CellNumbers.{plan_cell_numbers}
use Rattle.au_columns.specs.Chains.{downward}
use Rattle.au_joins.specs.Choices.{All, EqualAt, side_pairs, side_with}
use Rattle.au_joins.specs.Choices.{Meets as Ranges}

-- the plan below all operators that work row by row
abbrev pub bottom : PhysicalTree → PhysicalTree
bottom (physical.Scan t w) = physical.Scan t w
bottom (physical.Rows w rows) = physical.Rows w rows
bottom (physical.Extend e p) = bottom p
bottom (physical.Keep places p) = bottom p
bottom (physical.Filter e p) = bottom p
bottom (physical.Nested e p q) = physical.Nested e p q
bottom (physical.Hash places e p q) = physical.Hash places e p q
bottom (physical.Overlap at e p q) = physical.Overlap at e p q
bottom (physical.Union p q) = physical.Union p q
bottom (physical.Group keys aggs p) = physical.Group keys aggs p

-- the condition of a join, as an operator on its pairs
abbrev pub condition : PhysicalTree → List PhysicalTree
condition (physical.Scan t w) = []
condition (physical.Rows w rows) = []
condition (physical.Extend e p) = []
condition (physical.Keep places p) = []
condition (physical.Filter e p) = []
condition (physical.Nested e p q) = physical.Filter e p ∷ []
condition (physical.Hash places e p q) = physical.Filter e p ∷ []
condition (physical.Overlap at e p q) = physical.Filter e p ∷ []
condition (physical.Union p q) = []
condition (physical.Group keys aggs p) = []

-- the steps of a plan, the topmost first
abbrev pub steps_of : PhysicalTree → List PhysicalTree
steps_of p = downward p ++ condition (bottom p)

-- the rows that a plan gives before its condition is tested, where it is a join
abbrev pub found : PhysicalTree → List CellRows → CellRows
found (physical.Scan t w) ts = plan_cells (physical.Scan t w) ts
found (physical.Rows w rows) ts = plan_cells (physical.Rows w rows) ts
found (physical.Extend e p) ts = plan_cells (physical.Extend e p) ts
found (physical.Keep places p) ts = plan_cells (physical.Keep places p) ts
found (physical.Filter e p) ts = plan_cells (physical.Filter e p) ts
found (physical.Nested e p q) ts = side_pairs (side_with All (plan_cells q ts)) (plan_cells p ts)
found (physical.Hash places e p q) ts = side_pairs (side_with (EqualAt places) (plan_cells q ts)) (plan_cells p ts)
found (physical.Overlap at e p q) ts = side_pairs (side_with (Ranges at) (cells_by_range at (plan_cells q ts))) (plan_cells p ts)
found (physical.Union p q) ts = plan_cells (physical.Union p q) ts
found (physical.Group keys aggs p) ts = plan_cells (physical.Group keys aggs p) ts

-- whether the numbers fit that it evaluates for them
abbrev pub found_fit : PhysicalTree → List CellRows → Bool
found_fit (physical.Scan t w) ts = fit (plan_cell_numbers (physical.Scan t w) ts)
found_fit (physical.Rows w rows) ts = fit (plan_cell_numbers (physical.Rows w rows) ts)
found_fit (physical.Extend e p) ts = fit (plan_cell_numbers (physical.Extend e p) ts)
found_fit (physical.Keep places p) ts = fit (plan_cell_numbers (physical.Keep places p) ts)
found_fit (physical.Filter e p) ts = fit (plan_cell_numbers (physical.Filter e p) ts)
found_fit (physical.Nested e p q) ts = fit (plan_cell_numbers p ts) && fit (plan_cell_numbers q ts)
found_fit (physical.Hash places e p q) ts = fit (plan_cell_numbers p ts) && fit (plan_cell_numbers q ts)
found_fit (physical.Overlap at e p q) ts = fit (plan_cell_numbers p ts) && fit (plan_cell_numbers q ts)
found_fit (physical.Union p q) ts = fit (plan_cell_numbers (physical.Union p q) ts)
found_fit (physical.Group keys aggs p) ts = fit (plan_cell_numbers (physical.Group keys aggs p) ts)

-- how many operators it has
abbrev pub plan_size : PhysicalTree → ℕ
plan_size (physical.Scan t w) = 1
plan_size (physical.Rows w rows) = 1
plan_size (physical.Extend e p) = 1 + plan_size p
plan_size (physical.Keep places p) = 1 + plan_size p
plan_size (physical.Filter e p) = 1 + plan_size p
plan_size (physical.Nested e p q) = 1 + (plan_size p + plan_size q)
plan_size (physical.Hash places e p q) = 1 + (plan_size p + plan_size q)
plan_size (physical.Overlap at e p q) = 1 + (plan_size p + plan_size q)
plan_size (physical.Union p q) = 1 + (plan_size p + plan_size q)
plan_size (physical.Group keys aggs p) = 1 + plan_size p
