-- The numbers that the plans of Distinct, Group and Total add to those of their input: where the operator's own lie in the
-- range, and so do those that the input's rows hold, none that is added leaves it, whatever the other numbers of the input
-- are.
use Rattle.std.specs.Prelude.{◌≡◌, ℕ, List, ◌++◌, length, take, flat_map, Some}
use Rattle.au_value.specs.declared.kinds.Kind.{Kind}
use Rattle.au_expr.specs.Figures.{Fit}
use Rattle.au_algebra.specs.declared.query.Agg.{Agg}
use Rattle.au_algebra.specs.Ordinary.{Rows}
use Rattle.au_algebra.specs.Bounded.{Bounded, all_rows, distinct_rows, group}
use Rattle.au_algebra.specs.Fits.{agg_numbers, grouping_numbers, triple_numbers}
use Rattle.au_algebra.specs.Typing.{group_kinds, total_kinds}
use Rattle.au_plain.specs.Plans.{PlanTree}
use Rattle.au_plain.specs.PlanNumbers.{plan_numbers}
use Rattle.au_rwexpr.specs.Added.{AddsInRange, EncodesHeld}

-- those of the triples
abbrev pub AddsByDistinct : ℕ → PlanTree → PlanTree → Type 0
AddsByDistinct c of p =
    (tables : List Rows) (ks : List Kind) (rows : Bounded) →
    length ks ≡ c → EncodesHeld tables of ks rows → Fit (triple_numbers (distinct_rows rows)) →
    AddsInRange (plan_numbers of tables) (plan_numbers p tables)

-- those of the aggregates and of the triples
abbrev pub AddsByGroup : ℕ → ℕ → List Agg → PlanTree → PlanTree → Type 0
AddsByGroup c keys aggs of p =
    (tables : List Rows) (ks js : List Kind) (rows : Bounded) →
    length ks ≡ c → group_kinds keys aggs ks ≡ Some js → EncodesHeld tables of ks rows →
    Fit (grouping_numbers (take keys) aggs rows ++ triple_numbers (group keys aggs rows)) →
    AddsInRange (plan_numbers of tables) (plan_numbers p tables)

-- those of the aggregates
abbrev pub AddsByTotal : ℕ → List Agg → PlanTree → PlanTree → Type 0
AddsByTotal c aggs of p =
    (tables : List Rows) (ks js : List Kind) (rows : Bounded) →
    length ks ≡ c → total_kinds aggs ks ≡ Some js → EncodesHeld tables of ks rows →
    Fit (flat_map (agg_numbers (all_rows rows)) aggs) →
    AddsInRange (plan_numbers of tables) (plan_numbers p tables)
