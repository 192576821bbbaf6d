-- What the plans of Distinct, Group and Total give, where their input gives a relation.
use Rattle.std.specs.Prelude.{◌≡◌, ℕ, List, ◌++◌, length, take, flat_map, Some, ℤ}
use Rattle.au_value.specs.declared.kinds.Kind.{Kind}
use Rattle.au_algebra.specs.declared.query.Agg.{Agg}
use Rattle.au_algebra.specs.Ordinary.{Rows}
use Rattle.au_algebra.specs.Bounded.{Bounded, all_rows, distinct_rows, group, total}
use Rattle.au_algebra.specs.Fits.{agg_numbers, grouping_numbers, triple_numbers}
use Rattle.au_algebra.specs.Typing.{group_kinds, total_kinds}
use Rattle.au_plain.specs.Plans.{PlanTree}
use Rattle.au_plain.specs.PlanKinds.{FitTables}
use Rattle.au_encode.specs.Gives.{GivesRelation}

-- Where the input gives a relation of `c` columns, the plan gives its distinct rows.
-- Its numbers are those of the input and of the triples.
abbrev pub Distincts : ℕ → PlanTree → PlanTree → Type 0
Distincts c of p =
    (kinds : List (List Kind)) (tables : List Rows) (ks : List Kind) (rows : Bounded) (ns : List ℤ) →
    FitTables tables → length ks ≡ c → GivesRelation kinds tables of ks rows ns →
    GivesRelation kinds tables p ks (distinct_rows rows) (ns ++ triple_numbers (distinct_rows rows))

-- Where the input gives a relation of `c` columns, for which the keys and the aggregates are typed, the plan gives its
-- groups. Its numbers are those of the input, of the aggregates and of the triples.
abbrev pub Groups : ℕ → ℕ → List Agg → PlanTree → PlanTree → Type 0
Groups c keys aggs of p =
    (kinds : List (List Kind)) (tables : List Rows) (ks js : List Kind) (rows : Bounded) (ns : List ℤ) →
    FitTables tables → length ks ≡ c → group_kinds keys aggs ks ≡ Some js → GivesRelation kinds tables of ks rows ns →
    GivesRelation kinds tables p js (group keys aggs rows) (ns ++ (grouping_numbers (take keys) aggs rows ++ triple_numbers (group keys aggs rows)))

-- Where the input gives a relation of `c` columns, for which the aggregates are typed, the plan gives the sums over all
-- its rows. Its numbers are those of the input and of the aggregates.
abbrev pub Totals : ℕ → List Agg → PlanTree → PlanTree → Type 0
Totals c aggs of p =
    (kinds : List (List Kind)) (tables : List Rows) (ks js : List Kind) (rows : Bounded) (ns : List ℤ) →
    FitTables tables → length ks ≡ c → total_kinds aggs ks ≡ Some js → GivesRelation kinds tables of ks rows ns →
    GivesRelation kinds tables p js (total aggs rows) (ns ++ flat_map (agg_numbers (all_rows rows)) aggs)
