-- Filters on their way towards the tables: a plan whose rows are those of another one that pass some tests,
-- in the same order. No expression with arithmetic moves.
use Rattle.std.specs.Prelude.{ℕ, ◌-◌, Bool, not, ◌&&◌, List, [], ◌∷◌, ◌++◌, map, filter, flat_map, nat_eq, nat_le, nat_lt, if◌then◌else◌}
use Rattle.std.specs.List.{list_all}
use Rattle.au_plain.specs.PTerms.{PTerm}
use Rattle.au_plain.specs.Plans.{PlanTree, Scan, Rows, Extend, Keep, Filter, Join, Union, Group}
use Rattle.au_passes.specs.Conditions.{condition, conjuncts}
use Rattle.au_passes.specs.Tests.{without_arithmetic, reads_only, with_columns, defined, renamed, counted_from, movable, staying, total_weight}
use Rattle.au_plain.specs.Widths.{plan_width}

-- the rows that pass each of the tests
abbrev pub filtered_by : List PTerm → PlanTree → PlanTree
filtered_by [] p = p
filtered_by (e ∷ es) p = Filter (condition (e ∷ es)) p

-- the tests that read such columns alone, and the others
abbrev pub reading_only : (ℕ → Bool) → List PTerm → List PTerm
reading_only test es = filter (reads_only test) es

abbrev pub reading_more : (ℕ → Bool) → List PTerm → List PTerm
reading_more test es = filter (λ e. not (reads_only test e)) es

-- whether a place is another one than `n`, stands before it, or does not
abbrev pub other_than : ℕ → ℕ → Bool
other_than n i = not (nat_eq i n)

abbrev pub before : ℕ → ℕ → Bool
before n i = nat_lt i n

abbrev pub from : ℕ → ℕ → Bool
from n i = nat_le n i

-- The tests with the definition of the column `n` in its place, split into conjuncts. A definition is followed where it is
-- without arithmetic, as long as the tests stay small.
abbrev pub follow : ℕ → PTerm → List PTerm → List PTerm
follow n c es = flat_map (λ e. conjuncts (with_columns (defined n c) e)) es

abbrev pub most_weight : ℕ
most_weight = 1000

abbrev pub can_follow : ℕ → PTerm → List PTerm → Bool
can_follow n c es =
    not (list_all (reads_only (other_than n)) es) && (without_arithmetic c && nat_le (total_weight (follow n c es)) most_weight)

-- of some tests on rows with the column `n` added those on the rows without it, and those that stay
abbrev pub below_column : ℕ → PTerm → List PTerm → List PTerm
below_column n c es = if can_follow n c es then follow n c es else reading_only (other_than n) es

abbrev pub above_column : ℕ → PTerm → List PTerm → List PTerm
above_column n c es = if can_follow n c es then [] else reading_more (other_than n) es

-- of some tests on pairs those on the left rows, those on the right rows, and those on both
abbrev pub on_left : ℕ → List PTerm → List PTerm
on_left n es = reading_only (before n) es

abbrev pub on_right : ℕ → List PTerm → List PTerm
on_right n es = map (with_columns (counted_from n)) (reading_only (from n) (reading_more (before n) es))

abbrev pub on_both : ℕ → List PTerm → List PTerm
on_both n es = reading_more (from n) (reading_more (before n) es)

-- The plan of the rows that pass each of some tests without arithmetic, where the rows have `w` columns. Those of its own
-- conditions move, too, as far as they are without arithmetic.
abbrev pub strengthened : ℕ → List PTerm → PlanTree → PlanTree
strengthened w es (Scan t n) = filtered_by es (Scan t n)
strengthened w es (Rows n rows) = filtered_by es (Rows n rows)
strengthened w es (Extend c p) =
    let n = w - 1 in filtered_by (above_column n c es) (Extend c (strengthened n (below_column n c es) p))
strengthened w es (Keep places p) = Keep places (strengthened (plan_width p) (map (with_columns (renamed places)) es) p)
strengthened w es (Filter c p) = filtered_by (staying c) (strengthened w (es ++ movable c) p)
strengthened w es (Join c p q) =
    let tests = es ++ movable c in
    let n = w - plan_width q in
    Join (condition (on_both n tests ++ staying c)) (strengthened n (on_left n tests) p) (strengthened (plan_width q) (on_right n tests) q)
strengthened w es (Union p q) = Union (strengthened w es p) (strengthened (plan_width q) es q)
strengthened w es (Group keys aggs p) = filtered_by es (Group keys aggs (strengthened (plan_width p) [] p))

-- the plan with its conjuncts without arithmetic moved towards the tables
abbrev pub pushed : PlanTree → PlanTree
pushed p = strengthened (plan_width p) [] p
