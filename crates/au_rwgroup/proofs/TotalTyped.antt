-- A typed Total takes sums of columns that are there, so its plan gives the bounded row.
use Rattle.std.specs.Prelude.{◌≡◌, Bool, true, false, List, [], ◌∷◌, length, map, Option, Some, None, slice_get, if◌then◌else◌}
use Rattle.std.specs.List.{AllByRecursion, list_all}
use Rattle.std.proofs.Common.{refl, sym}
use Rattle.std.proofs.lemmas.Bool.{true≢false}
use Rattle.au_value.specs.declared.kinds.Kind.{Kind}
use Rattle.au_value.specs.declared.kinds.Kind.TheVariants.{Int}
use Rattle.au_expr.specs.Kinds.{is_kind}
use Rattle.au_expr.proofs.Along.{is_kind_is}
use Rattle.au_algebra.specs.declared.query.Agg.{Agg}
use Rattle.au_algebra.specs.declared.query.Agg.TheVariants as agg
use Rattle.au_algebra.specs.Ordinary.{Rows}
use Rattle.au_algebra.specs.Typing.{all_kinds, agg_kind, is_sum, total_kinds}
use Rattle.au_algebra.specs.Bounded as bounded
use Rattle.au_algebra.specs.Bounded.{Bounded}
use Rattle.au_algebra.specs.Laws.{IsRelation}
use Rattle.au_algebra.proofs.Items.{and_then_is}
use Rattle.au_plain.specs.Plans.{PlanTree}
use Rattle.au_rwgroup.specs.Totals.{total_plan}
use Rattle.au_combine.proofs.BoxPlaces.{at_within}
use Rattle.au_rwexpr.proofs.Gives.{GivesEncoded}
use Rattle.au_rwgroup.proofs.TotalRows.{IsSumOf, total_gives}

-- what a test lets through, where it is there
pub if_some : {A : Type 0} (b : Bool) (o : Option A) (x : A) → (if b then o else None) ≡ Some x → (b ≡ true) × (o ≡ Some x)
if_some true o x h = (refl, h)
if_some false o x h = cc

-- sums that have kinds are sums of columns that are there
pub sums_typed : (ks : List Kind) (aggs : List Agg) (js : List Kind) → list_all is_sum aggs ≡ true → all_kinds (map (agg_kind ks) aggs) ≡ Some js → AllByRecursion (IsSumOf (length ks)) aggs
sums_typed ks [] js s h = tt
sums_typed ks (agg.Sum c ∷ aggs) js s h =
    let p = and_then_is _ (agg_kind ks (agg.Sum c)) js h in
    let q = and_then_is _ (all_kinds (map (agg_kind ks) aggs)) js p.2 in
    let i = if_some (is_kind Int (slice_get ks c)) (Some Int) p.0 p.1 in
    ((refl, at_within ks c Int (is_kind_is Int (slice_get ks c) i.0)), sums_typed ks aggs q.0 s q.1)
sums_typed ks (agg.Min c ∷ aggs) js s h = absurd (true≢false (sym s))
sums_typed ks (agg.Max c ∷ aggs) js s h = absurd (true≢false (sym s))

-- The plan of a typed Total gives the row of the bounded operator.
pub typed_total_gives : (ks js : List Kind) (aggs : List Agg) → total_kinds aggs ks ≡ Some js → (ts : List Rows) (p : PlanTree) (rows : Bounded) → IsRelation ks rows → GivesEncoded ts p rows → GivesEncoded ts (total_plan (length ks) aggs p) (bounded.total aggs rows)
typed_total_gives ks js aggs h ts p rows ok g =
    let b = if_some (list_all is_sum aggs) (all_kinds (map (agg_kind ks) aggs)) js h in
    total_gives ks aggs (sums_typed ks aggs js b.0 b.1) ts p rows ok g
