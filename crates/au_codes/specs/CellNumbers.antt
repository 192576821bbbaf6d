-- The numbers of a plan over cells: those that it evaluates, and the magnitudes of each sum, added.
use Rattle.std.specs.Prelude.{ℕ, List, [], ◌∷◌, ◌++◌, map, flat_map, sum_by, ℤ, pos, nat_abs, if◌then◌else◌}
use Rattle.au_value.specs.Lists.{distinct}
use Rattle.au_plain.specs.declared.plan.PAgg.{PAgg}
use Rattle.au_plain.specs.declared.plan.PAgg.TheVariants.{Sum, Min, Max}
use Rattle.au_plain.specs.PTerms.{PTerm, PTerms, nil, cons}
use Rattle.au_plain.specs.PTerms as term
use Rattle.au_physical.specs.Physicals.{PhysicalTree}
use Rattle.au_physical.specs.Physicals as physical
use Rattle.au_codes.specs.Codes.{Cells, CellRows}
use Rattle.au_codes.specs.CellMeaning.{cell_value, least_cell, greatest_cell, cell_in, truth, cells_kept, same_cells, cell_members, cell_pairs, cells_equal_at, cells_overlap, cells_by_range, plan_cells}

-- the numbers of an expression; of a Case the chosen branch alone
abbrev mutual
  pub cell_numbers : PTerm → Cells → List ℤ
  cell_numbers (term.Column i) row = cell_in row i ∷ []
  cell_numbers (term.Literal v) row = cell_value (term.Literal v) row ∷ []
  cell_numbers (term.Add a b) row = cell_value (term.Add a b) row ∷ (cell_numbers a row ++ cell_numbers b row)
  cell_numbers (term.Subtract a b) row = cell_value (term.Subtract a b) row ∷ (cell_numbers a row ++ cell_numbers b row)
  cell_numbers (term.Multiply a b) row = cell_value (term.Multiply a b) row ∷ (cell_numbers a row ++ cell_numbers b row)
  cell_numbers (term.Negate a) row = cell_value (term.Negate a) row ∷ cell_numbers a row
  cell_numbers (term.Compare how a b) row = cell_numbers a row ++ cell_numbers b row
  cell_numbers (term.And a b) row = cell_numbers a row ++ cell_numbers b row
  cell_numbers (term.Or a b) row = cell_numbers a row ++ cell_numbers b row
  cell_numbers (term.Not a) row = cell_numbers a row
  cell_numbers (term.Case c a b) row =
      cell_numbers c row ++ (if truth (cell_value c row) then cell_numbers a row else cell_numbers b row)
  cell_numbers (term.Least es) row = least_cell es row ∷ parts_cells es row
  cell_numbers (term.Greatest es) row = greatest_cell es row ∷ parts_cells es row

  pub parts_cells : PTerms → Cells → List ℤ
  parts_cells nil row = []
  parts_cells (cons e es) row = cell_numbers e row ++ parts_cells es row

-- the sum of the magnitudes of a Sum's terms
abbrev pub cell_magnitudes : CellRows → PAgg → List ℤ
cell_magnitudes rows (Sum c) = pos (sum_by (λ row. nat_abs (cell_in row c)) rows) ∷ []
cell_magnitudes rows (Min c) = []
cell_magnitudes rows (Max c) = []

-- the numbers of a grouping
abbrev pub cell_group_numbers : List ℕ → List PAgg → CellRows → List ℤ
cell_group_numbers keys aggs rows =
    flat_map (λ key. flat_map (cell_magnitudes (cell_members keys rows key)) aggs) (distinct same_cells (map (cells_kept keys) rows))

-- the numbers of a plan; a join evaluates its expression on the pairs that meet its first test
abbrev pub plan_cell_numbers : PhysicalTree → List CellRows → List ℤ
plan_cell_numbers (physical.Scan t w) ts = []
plan_cell_numbers (physical.Rows w rows) ts = []
plan_cell_numbers (physical.Extend e p) ts = plan_cell_numbers p ts ++ flat_map (cell_numbers e) (plan_cells p ts)
plan_cell_numbers (physical.Keep places p) ts = plan_cell_numbers p ts
plan_cell_numbers (physical.Filter e p) ts = plan_cell_numbers p ts ++ flat_map (cell_numbers e) (plan_cells p ts)
plan_cell_numbers (physical.Nested e p q) ts =
    (plan_cell_numbers p ts ++ plan_cell_numbers q ts)
    ++ flat_map (cell_numbers e) (flat_map (λ a. map (λ b. a ++ b) (plan_cells q ts)) (plan_cells p ts))
plan_cell_numbers (physical.Hash places e p q) ts =
    (plan_cell_numbers p ts ++ plan_cell_numbers q ts)
    ++ flat_map (cell_numbers e) (cell_pairs (cells_equal_at places) (plan_cells p ts) (plan_cells q ts))
plan_cell_numbers (physical.Overlap at e p q) ts =
    (plan_cell_numbers p ts ++ plan_cell_numbers q ts)
    ++ flat_map (cell_numbers e) (cell_pairs (cells_overlap at) (plan_cells p ts) (cells_by_range at (plan_cells q ts)))
plan_cell_numbers (physical.Union p q) ts = plan_cell_numbers p ts ++ plan_cell_numbers q ts
plan_cell_numbers (physical.Group keys aggs p) ts = plan_cell_numbers p ts ++ cell_group_numbers keys aggs (plan_cells p ts)
