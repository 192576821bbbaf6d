-- The rows of a plan over the tables' lists of rows,
-- operator by operator, as an ordinary engine gives them.
use Rattle.std.specs.Prelude.{ℕ, Bool, List, [], ◌∷◌, ◌++◌, map, filter, flat_map, unwrap_or, slice_get}
use Rattle.au_value.specs.declared.value.Value.{Value}
use Rattle.au_value.specs.declared.value.Value.TheVariants.{Int}
use Rattle.au_value.specs.Lists.{distinct}
use Rattle.au_expr.specs.Ordinary.{is_true, number}
use Rattle.au_algebra.specs.Lists.{same_row, int_sum, least, greatest, value_at}
use Rattle.au_algebra.specs.Ordinary.{Rows}
use Rattle.au_plain.specs.declared.plan.PAgg.{PAgg}
use Rattle.au_plain.specs.declared.plan.PAgg.TheVariants.{Sum, Min, Max}
use Rattle.au_plain.specs.PTerms.{PTerm, plain_value}
use Rattle.au_plain.specs.Plans.{PlanTree}
use Rattle.au_plain.specs.Plans as plan

-- the row with the value of the expression added on the right
abbrev pub extended : PTerm → List Value → List Value
extended e row = row ++ plain_value e row ∷ []

-- the columns of these places, in this order
abbrev pub kept : List ℕ → List Value → List Value
kept places row = map (value_at row) places

-- whether the expression is true on the row
abbrev pub passes : PTerm → List Value → Bool
passes e row = is_true (plain_value e row)

-- an aggregate over the rows
abbrev pub plain_aggregate : Rows → PAgg → Value
plain_aggregate rows (Sum c) = Int (int_sum (map (λ row. number (value_at row c)) rows))
plain_aggregate rows (Min c) = least (map (λ row. value_at row c) rows)
plain_aggregate rows (Max c) = greatest (map (λ row. value_at row c) rows)

-- one row per distinct list of key values: the keys, then the aggregates over the rows with these keys
abbrev pub plain_group : List ℕ → List PAgg → Rows → Rows
plain_group keys aggs rows =
    map (λ key. key ++ map (plain_aggregate (filter (λ row. same_row key (kept keys row)) rows)) aggs)
    (distinct same_row (map (kept keys) rows))

-- The rows of a plan, each line read from the first row on: a join takes the left rows in order and for each its
-- right rows in order, and a grouping lists its keys in the order in which they are first seen.
abbrev pub plain_rows : PlanTree → List Rows → Rows
plain_rows (plan.Scan t w) ts = unwrap_or (slice_get ts t) []
plain_rows (plan.Rows w rows) ts = rows
plain_rows (plan.Extend e p) ts = map (extended e) (plain_rows p ts)
plain_rows (plan.Keep places p) ts = map (kept places) (plain_rows p ts)
plain_rows (plan.Filter e p) ts = filter (passes e) (plain_rows p ts)
plain_rows (plan.Join e p q) ts = filter (passes e) (flat_map (λ a. map (λ b. a ++ b) (plain_rows q ts)) (plain_rows p ts))
plain_rows (plan.Union p q) ts = plain_rows p ts ++ plain_rows q ts
plain_rows (plan.Group keys aggs p) ts = plain_group keys aggs (plain_rows p ts)
