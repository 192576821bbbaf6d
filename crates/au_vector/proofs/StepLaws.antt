-- A plan's rows are what its steps leave of what is found below them.
use Rattle.std.specs.Prelude.{◌≡◌, ◌<◌, Bool, true, false, ◌&&◌, List, [], ◌∷◌, ◌++◌, filter, flat_map, map}
use Rattle.std.proofs.Common.{refl, sym, ◌∙◌, ap, arith}
use Rattle.std.proofs.lemmas.List.Folds.{list_all-append}
use Rattle.au_value.specs.Numeral.{is_i128}
use Rattle.au_expr.specs.Figures.{fit}
use Rattle.au_plain.specs.PTerms.{PTerm}
use Rattle.au_physical.specs.Physicals.{PhysicalTree}
use Rattle.au_physical.specs.Physicals as physical
use Rattle.au_codes.specs.Codes.{Cells, CellRows}
use Rattle.au_codes.specs.CellMeaning.{cell_pairs, cells_equal_at, cells_extended, cells_kept, cells_overlap, cells_by_range, cells_pass, plan_cells}
use Rattle.au_codes.specs.CellNumbers.{cell_numbers, plan_cell_numbers}
use Rattle.au_columns.specs.Chains.{all_cells, all_fit, below}
use Rattle.au_joins.specs.Choices.{All, chosen}
use Rattle.au_vector.specs.PlanSteps.{bottom, found, found_fit, plan_size, steps_of}
use Rattle.au_vector.specs.Widths.{AreWide}
use Rattle.au_vector.proofs.RowWise.{and_groups}

-- all pairs
all_chosen : (a : Cells) (ys : CellRows) → filter (chosen All a) ys ≡ ys
all_chosen a [] = refl
all_chosen a (b ∷ ys) = ap (λ (rows : CellRows). b ∷ rows) (all_chosen a ys)

all_pairs : (xs ys : CellRows) → flat_map (λ a. map (λ b. a ++ b) ys) xs ≡ cell_pairs (chosen All) xs ys
all_pairs [] ys = refl
all_pairs (a ∷ xs) ys = λ i. map (λ b. a ++ b) (sym (all_chosen a ys) i) ++ all_pairs xs ys i

pub plan_is : (p : PhysicalTree) (ts : List CellRows) → plan_cells p ts ≡ all_cells (steps_of p) (found (bottom p) ts)
plan_is (physical.Scan t w) ts = refl
plan_is (physical.Rows w rows) ts = refl
plan_is (physical.Extend e p) ts = ap (map (cells_extended e)) (plan_is p ts)
plan_is (physical.Keep places p) ts = ap (map (cells_kept places)) (plan_is p ts)
plan_is (physical.Filter e p) ts = ap (filter (cells_pass e)) (plan_is p ts)
plan_is (physical.Nested e p q) ts = ap (filter (cells_pass e)) (all_pairs (plan_cells p ts) (plan_cells q ts))
plan_is (physical.Hash places e p q) ts = refl
plan_is (physical.Overlap at e p q) ts = refl
plan_is (physical.Union p q) ts = refl
plan_is (physical.Group keys aggs p) ts = refl

and_true : (b : Bool) → b ≡ b && true
and_true true = refl
and_true false = refl

module _ (ts : List CellRows) where
  abbrev sides : PhysicalTree → PhysicalTree → Bool
  sides p q = fit (plan_cell_numbers p ts) && fit (plan_cell_numbers q ts)

  -- the numbers of a join
  join_fit : (e : PTerm) (p q : PhysicalTree) (pairs : CellRows)
      → fit ((plan_cell_numbers p ts ++ plan_cell_numbers q ts) ++ flat_map (cell_numbers e) pairs) ≡ sides p q && fit (flat_map (cell_numbers e) pairs)
  join_fit e p q pairs =
      list_all-append is_i128 (plan_cell_numbers p ts ++ plan_cell_numbers q ts) (flat_map (cell_numbers e) pairs)
      ∙ ap (λ b. b && fit (flat_map (cell_numbers e) pairs)) (list_all-append is_i128 (plan_cell_numbers p ts) (plan_cell_numbers q ts))

  -- and of an operator that evaluates an expression
  abbrev Parts : PhysicalTree → Type 0
  Parts p = fit (plan_cell_numbers p ts) ≡ found_fit (bottom p) ts && all_fit (steps_of p) (found (bottom p) ts)

  one_more : (e : PTerm) (p : PhysicalTree) → Parts p
      → fit (plan_cell_numbers p ts ++ flat_map (cell_numbers e) (plan_cells p ts))
      ≡ found_fit (bottom p) ts && (all_fit (steps_of p) (found (bottom p) ts) && fit (flat_map (cell_numbers e) (all_cells (steps_of p) (found (bottom p) ts))))
  one_more e p parts =
      list_all-append is_i128 (plan_cell_numbers p ts) (flat_map (cell_numbers e) (plan_cells p ts))
      ∙ ((λ i. parts i && fit (flat_map (cell_numbers e) (plan_is p ts i)))
      ∙ and_groups (found_fit (bottom p) ts) (all_fit (steps_of p) (found (bottom p) ts)) (fit (flat_map (cell_numbers e) (all_cells (steps_of p) (found (bottom p) ts)))))

  pub numbers_are : (p : PhysicalTree) → Parts p
  numbers_are (physical.Scan t w) = refl
  numbers_are (physical.Rows w rows) = refl
  numbers_are (physical.Extend e p) = one_more e p (numbers_are p)
  numbers_are (physical.Keep places p) =
      numbers_are p ∙ ap (λ b. found_fit (bottom p) ts && b) (and_true (all_fit (steps_of p) (found (bottom p) ts)))
  numbers_are (physical.Filter e p) = one_more e p (numbers_are p)
  numbers_are (physical.Nested e p q) =
      join_fit e p q (flat_map (λ a. map (λ b. a ++ b) (plan_cells q ts)) (plan_cells p ts))
      ∙ ap (λ (pairs : CellRows). sides p q && fit (flat_map (cell_numbers e) pairs)) (all_pairs (plan_cells p ts) (plan_cells q ts))
  numbers_are (physical.Hash places e p q) = join_fit e p q (cell_pairs (cells_equal_at places) (plan_cells p ts) (plan_cells q ts))
  numbers_are (physical.Overlap at e p q) = join_fit e p q (cell_pairs (cells_overlap at) (plan_cells p ts) (cells_by_range at (plan_cells q ts)))
  numbers_are (physical.Union p q) = and_true (fit (plan_cell_numbers (physical.Union p q) ts))
  numbers_are (physical.Group keys aggs p) = and_true (fit (plan_cell_numbers (physical.Group keys aggs p) ts))

-- ---- the bottom

pub bottom_wide : (p : PhysicalTree) (ts : List CellRows) → AreWide p ts → AreWide (bottom p) ts
bottom_wide (physical.Scan t w) ts h = h
bottom_wide (physical.Rows w rows) ts h = h
bottom_wide (physical.Extend e p) ts h = bottom_wide p ts h
bottom_wide (physical.Keep places p) ts h = bottom_wide p ts h
bottom_wide (physical.Filter e p) ts h = bottom_wide p ts h
bottom_wide (physical.Nested e p q) ts h = h
bottom_wide (physical.Hash places e p q) ts h = h
bottom_wide (physical.Overlap at e p q) ts h = h
bottom_wide (physical.Union p q) ts h = h
bottom_wide (physical.Group keys aggs p) ts h = h

pub bottom_of_next : (p q : PhysicalTree) → below p ≡ q ∷ [] → bottom p ≡ bottom q
bottom_of_next (physical.Scan t w) q is = cc
bottom_of_next (physical.Rows w list) q is = cc
bottom_of_next (physical.Extend e p) q is = let same : p ≡ q = cc in ap bottom same
bottom_of_next (physical.Keep places p) q is = let same : p ≡ q = cc in ap bottom same
bottom_of_next (physical.Filter e p) q is = let same : p ≡ q = cc in ap bottom same
bottom_of_next (physical.Nested e p r) q is = cc
bottom_of_next (physical.Hash places e p r) q is = cc
bottom_of_next (physical.Overlap at e p r) q is = cc
bottom_of_next (physical.Union p r) q is = cc
bottom_of_next (physical.Group keys aggs p) q is = cc

pub is_bottom : (p : PhysicalTree) → below p ≡ [] → p ≡ bottom p
is_bottom (physical.Scan t w) is = refl
is_bottom (physical.Rows w list) is = refl
is_bottom (physical.Extend e p) is = cc
is_bottom (physical.Keep places p) is = cc
is_bottom (physical.Filter e p) is = cc
is_bottom (physical.Nested e p r) is = refl
is_bottom (physical.Hash places e p r) is = refl
is_bottom (physical.Overlap at e p r) is = refl
is_bottom (physical.Union p r) is = refl
is_bottom (physical.Group keys aggs p) is = refl

-- ---- sizes

pub next_smaller : (p q : PhysicalTree) → below p ≡ q ∷ [] → plan_size q < plan_size p
next_smaller (physical.Scan t w) q is = cc
next_smaller (physical.Rows w list) q is = cc
next_smaller (physical.Extend e p) q is = let same : plan_size p ≡ plan_size q = ap plan_size cc in omega (arith, same)
next_smaller (physical.Keep places p) q is = let same : plan_size p ≡ plan_size q = ap plan_size cc in omega (arith, same)
next_smaller (physical.Filter e p) q is = let same : plan_size p ≡ plan_size q = ap plan_size cc in omega (arith, same)
next_smaller (physical.Nested e p r) q is = cc
next_smaller (physical.Hash places e p r) q is = cc
next_smaller (physical.Overlap at e p r) q is = cc
next_smaller (physical.Union p r) q is = cc
next_smaller (physical.Group keys aggs p) q is = cc
