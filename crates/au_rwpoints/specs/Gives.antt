-- What the plans of Group and Distinct by points give, where their input gives a relation.
use Rattle.std.specs.Prelude.{◌≡◌, ℕ, List, ◌++◌, length, take, Some, ℤ}
use Rattle.au_value.specs.declared.kinds.Kind.{Kind}
use Rattle.au_algebra.specs.declared.query.Agg.{Agg}
use Rattle.au_algebra.specs.Bounded.{Bounded}
use Rattle.au_algebra.specs.Fits.{triple_numbers}
use Rattle.au_algebra.specs.Ordinary.{Rows}
use Rattle.au_algebra.specs.Typing.{group_kinds}
use Rattle.au_plain.specs.PlanKinds.{FitTables}
use Rattle.au_plain.specs.Plans.{PlanTree}
use Rattle.au_encode.specs.Gives.{GivesRelation}
use Rattle.au_points.specs.Points.{distinct_points, group_points, numbers_by_points, point_numbers, point_outputs}

-- Where the input gives a relation of `c` columns, for which the keys and the aggregates are typed, the plan gives the rows
-- of its points. Its numbers are those of the input and of the points' aggregates.
abbrev pub PointOutputs : ℕ → ℕ → List Agg → PlanTree → PlanTree → Type 0
PointOutputs c keys aggs of p =
    (kinds : List (List Kind)) (tables : List Rows) (ks js : List Kind) (rows : Bounded) (ns : List ℤ) →
    FitTables tables → length ks ≡ c → group_kinds keys aggs ks ≡ Some js → GivesRelation kinds tables of ks rows ns →
    GivesRelation kinds tables p js (point_outputs (take keys) aggs rows) (ns ++ point_numbers (take keys) aggs rows)

-- Under the same premises the plan gives its groups by points. Its numbers are those of the input and of the grouping.
abbrev pub GroupsByPoints : ℕ → ℕ → List Agg → PlanTree → PlanTree → Type 0
GroupsByPoints c keys aggs of p =
    (kinds : List (List Kind)) (tables : List Rows) (ks js : List Kind) (rows : Bounded) (ns : List ℤ) →
    FitTables tables → length ks ≡ c → group_kinds keys aggs ks ≡ Some js → GivesRelation kinds tables of ks rows ns →
    GivesRelation kinds tables p js (group_points keys aggs rows) (ns ++ numbers_by_points (take keys) aggs rows)

-- Where the input gives a relation of `c` columns, the plan gives its distinct rows by points.
-- Its numbers are those of the input and of the triples.
abbrev pub DistinctByPoints : ℕ → PlanTree → PlanTree → Type 0
DistinctByPoints c of p =
    (kinds : List (List Kind)) (tables : List Rows) (ks : List Kind) (rows : Bounded) (ns : List ℤ) →
    FitTables tables → length ks ≡ c → GivesRelation kinds tables of ks rows ns →
    GivesRelation kinds tables p ks (distinct_points rows) (ns ++ triple_numbers (distinct_points rows))
