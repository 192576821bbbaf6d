-- What the plans of Distinct and Total give, with the numbers that they make and the Scans that they have.
use Rattle.std.specs.Prelude.{◌≡◌, ◌≤◌, ℕ, ◌*◌, List, [], ◌∷◌, ◌++◌, flat_map, map}
use Rattle.std.specs.List.{list_all}
use Rattle.std.proofs.Common.{arith, sym, ◌∙◌, ap, subst, zero-add}
use Rattle.std.proofs.Math.Nat.{le_of_eq}
use Rattle.au_expr.proofs.Fits.{fit_parts}
use Rattle.au_algebra.specs.declared.query.Agg.{Agg}
use Rattle.au_algebra.specs.Bounded as bounded
use Rattle.au_algebra.specs.Bounded.{all_rows}
use Rattle.au_algebra.specs.Fits.{agg_numbers, triple_numbers}
use Rattle.au_algebra.specs.Typing.{agg_kind, all_kinds, is_sum}
use Rattle.au_algebra.proofs.GroupRelation.{distinct_relation, total_relation}
use Rattle.au_plain.specs.declared.plan.PAgg.{PAgg}
use Rattle.au_plain.specs.Plans.{PlanTree, extend_all}
use Rattle.au_plain.specs.PlanNumbers.{scans}
use Rattle.au_encode.specs.Gives.{GivesRelation}
use Rattle.au_encode.proofs.HeldCells.{gives_held}
use Rattle.au_rwexpr.proofs.Counting.{scans-extend_all}
use Rattle.au_rwgroup.specs.Gives.{Distincts, Totals}
use Rattle.au_rwgroup.specs.Groups.{group_columns, first_grouping, distinct_plan}
use Rattle.au_rwgroup.specs.Totals.{sums, total_plan, total_columns}
use Rattle.au_rwgroup.proofs.FirstKinds.{distinct_kinds}
use Rattle.au_rwgroup.proofs.FirstRows as on_rows
use Rattle.au_rwgroup.proofs.FirstNumbers.{distinct_fits}
use Rattle.au_rwgroup.proofs.TotalKinds.{total_plan_kinds}
use Rattle.au_rwgroup.proofs.TotalNumbers.{total_fits}
use Rattle.au_rwgroup.proofs.TotalTyped.{if_some, sums_typed, typed_total_gives}

-- the first grouping adds no Scan
pub first_scans : (c k : ℕ) (kept : List PAgg) (of : PlanTree) → scans (first_grouping c k kept of) ≡ scans of
first_scans c k kept of = scans-extend_all (group_columns c k) of

module _ (c : ℕ) (of p : PlanTree) (is : p ≡ distinct_plan c of) where
  distinct_as_is : Distincts c of (distinct_plan c of)
  distinct_as_is kinds tables ks rows ns fits long g =
      let own = triple_numbers (bounded.distinct_rows rows) in
      subst (λ n. GivesRelation kinds tables (distinct_plan n of) ks (bounded.distinct_rows rows) (ns ++ own)) long
      (record {
        typed = distinct_kinds kinds ks of g.typed;
        relation = distinct_relation ks rows g.relation;
        encoded = on_rows.distinct_gives ks tables of rows g.relation g.encoded;
        fit = λ f. (let p = fit_parts ns own f in
            distinct_fits ks tables of rows g.relation g.encoded (gives_held kinds tables of ks rows ns g fits p.0) p.1 (g.fit p.0));
      })

  pub distinct_gives : Distincts c of p
  distinct_gives = subst (λ q. Distincts c of q) (sym is) distinct_as_is

  pub distinct_scans : scans p ≤ scans of
  distinct_scans = le_of_eq {n = scans p} {m = scans of} (ap scans is ∙ first_scans c c [] of)

-- the plan of the sums adds no Scan
pub sums_scans : (c : ℕ) (aggs : List Agg) (of : PlanTree) → scans (sums c aggs of) ≡ scans of
sums_scans c aggs of = zero-add (scans (extend_all (total_columns (3 * c) aggs) of)) ∙ scans-extend_all (total_columns (3 * c) aggs) of

total_within : (c : ℕ) (aggs : List Agg) (of : PlanTree) → scans (total_plan c aggs of) ≤ scans of
total_within c [] of = omega arith
total_within c (a ∷ aggs) of = le_of_eq {n = scans (sums c (a ∷ aggs) of)} {m = scans of} (sums_scans c (a ∷ aggs) of)

module _ (c : ℕ) (aggs : List Agg) (of p : PlanTree) (is : p ≡ total_plan c aggs of) where
  total_as_is : Totals c aggs of (total_plan c aggs of)
  total_as_is kinds tables ks js rows ns fits long typed g =
      let own = flat_map (agg_numbers (all_rows rows)) aggs in
      let b = if_some (list_all is_sum aggs) (all_kinds (map (agg_kind ks) aggs)) js typed in
      subst (λ n. GivesRelation kinds tables (total_plan n aggs of) js (bounded.total aggs rows) (ns ++ own)) long
      (record {
        typed = total_plan_kinds kinds ks js aggs typed of g.typed;
        relation = total_relation ks js aggs rows b.0 b.1 g.relation;
        encoded = typed_total_gives ks js aggs typed tables of rows g.relation g.encoded;
        fit = λ f. (let p = fit_parts ns own f in
            total_fits ks aggs (sums_typed ks aggs js b.0 b.1) tables of rows g.relation g.encoded (gives_held kinds tables of ks rows ns g fits p.0) p.1 (g.fit p.0));
      })

  pub total_gives : Totals c aggs of p
  total_gives = subst (λ q. Totals c aggs of q) (sym is) total_as_is

  pub total_scans : scans p ≤ scans of
  total_scans = subst (λ q. scans q ≤ scans of) (sym is) (total_within c aggs of)
