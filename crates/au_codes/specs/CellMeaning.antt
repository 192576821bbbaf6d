-- The meaning of physical plans over cells: no kinds, no texts, and one comparison for all. It is what an executor over
-- columns of numbers promises.
use Rattle.std.specs.Prelude.{ℕ, Bool, not, ◌&&◌, ◌||◌, List, [], ◌∷◌, ◌++◌, map, filter, flat_map, unwrap_or, slice_get, ℤ, pos, ◌+ℤ◌, ◌-ℤ◌, ◌*ℤ◌, neg_ℤ, if◌then◌else◌}
use Rattle.std.specs.List.{list_all}
use Rattle.std.specs.Ordering.{int_cmp, int_eq, is_lt}
use Rattle.std.specs.Cmp.Lexicographic.{pointwise}
use Rattle.au_value.specs.declared.value.Value.{Value}
use Rattle.au_value.specs.declared.value.Value.TheVariants.{Int, Text, Flag}
use Rattle.au_value.specs.Lists.{distinct}
use Rattle.au_algebra.specs.Lists.{int_sum, sorted_by}
use Rattle.au_plain.specs.declared.expr.Comparison2.{Comparison2}
use Rattle.au_plain.specs.declared.expr.Comparison2.TheVariants.{Equal, Less, AtMost}
use Rattle.au_plain.specs.declared.plan.PAgg.{PAgg}
use Rattle.au_plain.specs.declared.plan.PAgg.TheVariants.{Sum, Min, Max}
use Rattle.au_plain.specs.PTerms.{PTerm, PTerms, nil, cons}
use Rattle.au_plain.specs.PTerms as term
use Rattle.au_physical.specs.declared.physical.Bounds.{Bounds}
use Rattle.au_physical.specs.Physicals.{PhysicalTree}
use Rattle.au_physical.specs.Physicals as physical
use Rattle.au_codes.specs.Codes.{Cells, CellRows, flag, number_at_most}

-- the number of a value that a plan over cells has written out; none is a text
abbrev pub cell : Value → ℤ
cell (Int n) = n
cell (Text w) = pos 0
cell (Flag b) = flag b

-- whether a number stands for the true flag
abbrev pub truth : ℤ → Bool
truth z = not (int_eq z (pos 0))

-- the number in a column, and 0 past the last
abbrev pub cell_in : Cells → ℕ → ℤ
cell_in row i = unwrap_or (slice_get row i) (pos 0)

-- comparisons
abbrev pub number_below : ℤ → ℤ → Bool
number_below a b = is_lt (int_cmp a b)

abbrev pub numbers_compare : Comparison2 → ℤ → ℤ → Bool
numbers_compare Equal a b = int_eq a b
numbers_compare Less a b = number_below a b
numbers_compare AtMost a b = number_at_most a b

-- the lesser and the greater of two
abbrev pub lesser_number : ℤ → ℤ → ℤ
lesser_number a b = if number_at_most a b then a else b

abbrev pub greater_number : ℤ → ℤ → ℤ
greater_number a b = if number_at_most a b then b else a

-- the value of an expression on a row
abbrev mutual
  pub cell_value : PTerm → Cells → ℤ
  cell_value (term.Column i) row = cell_in row i
  cell_value (term.Literal v) row = cell v
  cell_value (term.Add a b) row = cell_value a row +ℤ cell_value b row
  cell_value (term.Subtract a b) row = cell_value a row -ℤ cell_value b row
  cell_value (term.Multiply a b) row = cell_value a row *ℤ cell_value b row
  cell_value (term.Negate a) row = neg_ℤ (cell_value a row)
  cell_value (term.Compare how a b) row = flag (numbers_compare how (cell_value a row) (cell_value b row))
  cell_value (term.And a b) row = flag (truth (cell_value a row) && truth (cell_value b row))
  cell_value (term.Or a b) row = flag (truth (cell_value a row) || truth (cell_value b row))
  cell_value (term.Not a) row = flag (not (truth (cell_value a row)))
  cell_value (term.Case c a b) row = if truth (cell_value c row) then cell_value a row else cell_value b row
  cell_value (term.Least es) row = least_cell es row
  cell_value (term.Greatest es) row = greatest_cell es row

  -- the least of several expressions, and 0 of none
  pub least_cell : PTerms → Cells → ℤ
  least_cell nil row = pos 0
  least_cell (cons e nil) row = cell_value e row
  least_cell (cons e (cons f es)) row = lesser_number (cell_value e row) (least_cell (cons f es) row)

  pub greatest_cell : PTerms → Cells → ℤ
  greatest_cell nil row = pos 0
  greatest_cell (cons e nil) row = cell_value e row
  greatest_cell (cons e (cons f es)) row = greater_number (cell_value e row) (greatest_cell (cons f es) row)

-- the row with the value of the expression added on the right
abbrev pub cells_extended : PTerm → Cells → Cells
cells_extended e row = row ++ cell_value e row ∷ []

-- the columns of these places, in this order
abbrev pub cells_kept : List ℕ → Cells → Cells
cells_kept places row = map (cell_in row) places

-- whether the expression is true on the row
abbrev pub cells_pass : PTerm → Cells → Bool
cells_pass e row = truth (cell_value e row)

-- whether two rows are equal
abbrev pub same_cells : Cells → Cells → Bool
same_cells xs ys = pointwise int_eq xs ys

-- the least and the greatest of some numbers, and 0 of none
abbrev pub least_number : List ℤ → ℤ
least_number [] = pos 0
least_number (z ∷ []) = z
least_number (z ∷ y ∷ ys) = lesser_number z (least_number (y ∷ ys))

abbrev pub greatest_number : List ℤ → ℤ
greatest_number [] = pos 0
greatest_number (z ∷ []) = z
greatest_number (z ∷ y ∷ ys) = greater_number z (greatest_number (y ∷ ys))

-- an aggregate over the rows
abbrev pub cell_aggregate : CellRows → PAgg → ℤ
cell_aggregate rows (Sum c) = int_sum (map (λ row. cell_in row c) rows)
cell_aggregate rows (Min c) = least_number (map (λ row. cell_in row c) rows)
cell_aggregate rows (Max c) = greatest_number (map (λ row. cell_in row c) rows)

-- the rows with a key
abbrev pub cell_members : List ℕ → CellRows → Cells → CellRows
cell_members keys rows key = filter (λ row. same_cells key (cells_kept keys row)) rows

-- one row per distinct key, where it is first seen: the key, then the aggregates over the rows with this key
abbrev pub cell_group : List ℕ → List PAgg → CellRows → CellRows
cell_group keys aggs rows =
    map (λ key. key ++ map (cell_aggregate (cell_members keys rows key)) aggs) (distinct same_cells (map (cells_kept keys) rows))

-- each left row followed by each right row that is chosen for it
abbrev pub cell_pairs : (Cells → Cells → Bool) → CellRows → CellRows → CellRows
cell_pairs chosen xs ys = flat_map (λ a. map (λ b. a ++ b) (filter (chosen a) ys)) xs

abbrev pub cells_equal_at : List (ℕ × ℕ) → Cells → Cells → Bool
cells_equal_at places a b = list_all (λ p. int_eq (cell_in a p.0) (cell_in b p.1)) places

abbrev pub cells_overlap : Bounds → Cells → Cells → Bool
cells_overlap at a b =
    number_at_most (cell_in a at.left_lo) (cell_in b at.right_hi) && number_at_most (cell_in b at.right_lo) (cell_in a at.left_hi)

-- right rows in the order of their ranges: by lower end, upper end and place
abbrev pub cells_at_most : Bounds → Cells → Cells → Bool
cells_at_most at a b =
    number_below (cell_in a at.right_lo) (cell_in b at.right_lo)
    || (int_eq (cell_in a at.right_lo) (cell_in b at.right_lo) && number_at_most (cell_in a at.right_hi) (cell_in b at.right_hi))

abbrev pub cells_by_range : Bounds → CellRows → CellRows
cells_by_range at rows = sorted_by (cells_at_most at) rows

-- the rows of a physical plan, in order
abbrev pub plan_cells : PhysicalTree → List CellRows → CellRows
plan_cells (physical.Scan t w) ts = unwrap_or (slice_get ts t) []
plan_cells (physical.Rows w rows) ts = map (map cell) rows
plan_cells (physical.Extend e p) ts = map (cells_extended e) (plan_cells p ts)
plan_cells (physical.Keep places p) ts = map (cells_kept places) (plan_cells p ts)
plan_cells (physical.Filter e p) ts = filter (cells_pass e) (plan_cells p ts)
plan_cells (physical.Nested e p q) ts =
    filter (cells_pass e) (flat_map (λ a. map (λ b. a ++ b) (plan_cells q ts)) (plan_cells p ts))
plan_cells (physical.Hash places e p q) ts =
    filter (cells_pass e) (cell_pairs (cells_equal_at places) (plan_cells p ts) (plan_cells q ts))
plan_cells (physical.Overlap at e p q) ts =
    filter (cells_pass e) (cell_pairs (cells_overlap at) (plan_cells p ts) (cells_by_range at (plan_cells q ts)))
plan_cells (physical.Union p q) ts = plan_cells p ts ++ plan_cells q ts
plan_cells (physical.Group keys aggs p) ts = cell_group keys aggs (plan_cells p ts)
