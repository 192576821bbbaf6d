-- The ordinary answer of a query over lists of rows, in unbounded arithmetic:
-- the bag answer of SQL, but for a sum over no rows, which is 0.
use Rattle.std.specs.Prelude.{ℕ, List, [], ◌∷◌, ◌++◌, map, take, filter, unwrap_or, slice_get, flat_map}
use Rattle.au_value.specs.declared.value.Value.{Value}
use Rattle.au_value.specs.declared.value.Value.TheVariants.{Int}
use Rattle.au_value.specs.Lists.{distinct}
use Rattle.au_expr.specs.Terms.{Term}
use Rattle.au_expr.specs.Ordinary.{value_of, is_true, number}
use Rattle.au_algebra.specs.declared.query.Agg.{Agg}
use Rattle.au_algebra.specs.declared.query.Agg.TheVariants.{Sum, Min, Max}
use Rattle.au_algebra.specs.Trees.{Tree}
use Rattle.au_algebra.specs.Trees.{Table, Select, Project, Product, Union, Difference, Distinct, Group, Total}
use Rattle.au_algebra.specs.Lists.{take_out, same_row, value_at, int_sum, least, greatest}

-- a list of rows, taken up to order
abbrev pub Rows : Type 0
Rows = List (List Value)

-- the rows whose condition is true
abbrev pub select : Term → Rows → Rows
select e rows = filter (λ row. is_true (value_of e row)) rows

-- each row's list of item values
abbrev pub project : List Term → Rows → Rows
project items rows = map (λ row. map (λ e. value_of e row) items) rows

-- each pair, joined
abbrev pub product : Rows → Rows → Rows
product xs ys = flat_map (λ x. map (λ y. x ++ y) ys) xs

-- the left list, with one copy of a row taken out per copy on the right, as long as there is one
abbrev pub difference : Rows → Rows → Rows
difference xs ys = take_out same_row ys xs

-- an aggregate over the rows
abbrev pub aggregate : Rows → Agg → Value
aggregate rows (Sum c) = Int (int_sum (map (λ row. number (value_at row c)) rows))
aggregate rows (Min c) = least (map (λ row. value_at row c) rows)
aggregate rows (Max c) = greatest (map (λ row. value_at row c) rows)

-- per distinct list of leading key values: the keys, then the aggregates over the rows with these keys
abbrev pub group : ℕ → List Agg → Rows → Rows
group keys aggs rows =
    map (λ key. key ++ map (aggregate (filter (λ row. same_row key (take keys row)) rows)) aggs)
    (distinct same_row (map (take keys) rows))

-- one row, of the aggregates over all rows
abbrev pub total : List Agg → Rows → Rows
total aggs rows = map (aggregate rows) aggs ∷ []

-- the ordinary answer over the tables' lists of rows
abbrev pub answer : Tree → List Rows → Rows
answer (Table i) ts = unwrap_or (slice_get ts i) []
answer (Select e q) ts = select e (answer q ts)
answer (Project items q) ts = project items (answer q ts)
answer (Product a b) ts = product (answer a ts) (answer b ts)
answer (Union a b) ts = answer a ts ++ answer b ts
answer (Difference a b) ts = difference (answer a ts) (answer b ts)
answer (Distinct q) ts = distinct same_row (answer q ts)
answer (Group keys aggs q) ts = group keys aggs (answer q ts)
answer (Total aggs q) ts = total aggs (answer q ts)
