-- What the plans of the operators give, with the numbers that they make and the Scans that they have.
use Rattle.std.specs.Prelude.{◌≡◌, ◌≤◌, ℕ, ◌+◌, ◌*◌, List, ◌++◌, length, flat_map}
use Rattle.std.proofs.Common.{sym, ◌∙◌, ap, subst}
use Rattle.std.proofs.Math.Nat.{le_of_eq}
use Rattle.au_expr.specs.Terms.{Term}
use Rattle.au_expr.specs.Numbers.{expr_numbers}
use Rattle.au_expr.proofs.Fits.{fit_both, fit_parts}
use Rattle.au_algebra.specs.Bounded as bounded
use Rattle.au_algebra.specs.Bounded.{Bounded}
use Rattle.au_algebra.specs.Fits.{triple_numbers}
use Rattle.au_algebra.proofs.PositiveRelation.{select_relation, project_relation, product_relation, union_relation}
use Rattle.au_plain.specs.Plans.{PlanTree}
use Rattle.au_plain.specs.PlanNumbers.{scans, plan_numbers}
use Rattle.au_rwexpr.specs.Flatten.{flatten, flatten_items}
use Rattle.au_rwcore.specs.Core.{select_plan, project_plan, product_plan, union_plan}
use Rattle.au_encode.specs.Gives.{GivesRelation}
use Rattle.au_rwcore.specs.Gives.{Selects, Projects, Multiplies, Unites}
use Rattle.au_rwexpr.proofs.Counting.{scans-extend_all}
use Rattle.au_rwcore.proofs.CoreKinds.{select_kinds, project_kinds, product_kinds, union_kinds}
use Rattle.au_rwcore.proofs.SelectRows as on_rows
use Rattle.au_rwcore.proofs.ProjectRows as on_items
use Rattle.au_rwcore.proofs.ProductRows as on_pairs
use Rattle.au_rwcore.proofs.UnionRows as on_both
use Rattle.au_rwcore.proofs.SelectNumbers.{select_fits}
use Rattle.au_rwcore.proofs.ProjectNumbers.{project_fits}
use Rattle.au_rwcore.proofs.ProductNumbers.{product_fits}

module _ (c : ℕ) (e : Term) (of p : PlanTree) (is : p ≡ select_plan c e of) where
  select_as_is : Selects c e of (select_plan c e of)
  select_as_is kinds tables ks rows ns long typed g =
      let own = flat_map (λ r. expr_numbers e r.cells) rows ++ triple_numbers (bounded.select e rows) in
      subst (λ n. GivesRelation kinds tables (select_plan n e of) ks (bounded.select e rows) (ns ++ own)) long
      (record {
        typed = select_kinds kinds ks e typed of g.typed;
        relation = select_relation ks e typed rows g.relation;
        encoded = on_rows.select_gives ks e typed tables of rows g.relation g.encoded;
        fit = λ f. (let p = fit_parts ns own f in select_fits ks e typed tables of rows g.relation g.encoded p.1 (g.fit p.0));
      })

  pub select_gives : Selects c e of p
  select_gives = subst (λ q. Selects c e of q) (sym is) select_as_is

  pub select_scans : scans p ≤ scans of
  select_scans = le_of_eq {n = scans p} {m = scans of} (ap scans is ∙ scans-extend_all (flatten (3 * c + 3) e) of)

module _ (c : ℕ) (items : List Term) (of p : PlanTree) (is : p ≡ project_plan c items of) where
  project_as_is : Projects c items of (project_plan c items of)
  project_as_is kinds tables ks js rows ns long typed g =
      let own = flat_map (λ r. flat_map (λ e. expr_numbers e r.cells) items) rows in
      subst (λ n. GivesRelation kinds tables (project_plan n items of) js (bounded.project items rows) (ns ++ own)) long
      (record {
        typed = project_kinds kinds ks items js typed of g.typed;
        relation = project_relation ks items js typed rows g.relation;
        encoded = on_items.project_gives ks items js typed tables of rows g.relation g.encoded;
        fit = λ f. (let p = fit_parts ns own f in project_fits ks items js typed tables of rows g.relation g.encoded p.1 (g.fit p.0));
      })

  pub project_gives : Projects c items of p
  project_gives = subst (λ q. Projects c items of q) (sym is) project_as_is

  pub project_scans : scans p ≤ scans of
  project_scans = le_of_eq {n = scans p} {m = scans of} (ap scans is ∙ scans-extend_all (flatten_items (3 * c + 3) items) of)

module _ (c d : ℕ) (left right p : PlanTree) (is : p ≡ product_plan c d left right) where
  product_as_is : Multiplies c d left right (product_plan c d left right)
  product_as_is kinds tables ks js xs ys ms ns long wide g h =
      let own = triple_numbers (bounded.product xs ys) in
      subst (λ n. GivesRelation kinds tables (product_plan n d left right) (ks ++ js) (bounded.product xs ys) (ms ++ (ns ++ own))) long
      (subst (λ n. GivesRelation kinds tables (product_plan (length ks) n left right) (ks ++ js) (bounded.product xs ys) (ms ++ (ns ++ own))) wide
      (record {
        typed = product_kinds kinds ks js left right g.typed h.typed;
        relation = product_relation ks js xs ys g.relation h.relation;
        encoded = on_pairs.product_gives ks js tables left right xs ys g.relation h.relation g.encoded h.encoded;
        fit = λ f. (let p = fit_parts ms (ns ++ own) f in
            let q = fit_parts ns own p.1 in
            product_fits ks js tables left right xs ys g.relation h.relation g.encoded h.encoded q.1 (g.fit p.0) (h.fit q.0));
      }))

  pub product_gives : Multiplies c d left right p
  product_gives = subst (λ q. Multiplies c d left right q) (sym is) product_as_is

  pub product_scans : scans p ≤ scans left + scans right
  product_scans = le_of_eq {n = scans p} {m = scans left + scans right} (ap scans is)

module _ (left right p : PlanTree) (is : p ≡ union_plan left right) where
  union_as_is : Unites left right (union_plan left right)
  union_as_is kinds tables ks xs ys ms ns g h = record {
    typed = union_kinds kinds ks left right g.typed h.typed;
    relation = union_relation ks xs ys g.relation h.relation;
    encoded = on_both.union_gives ks tables left right xs ys g.relation h.relation g.encoded h.encoded;
    fit = λ f. (let p = fit_parts ms ns f in fit_both (plan_numbers left tables) (plan_numbers right tables) (g.fit p.0) (h.fit p.1));
  }

  pub union_gives : Unites left right p
  union_gives = subst (λ q. Unites left right q) (sym is) union_as_is

  pub union_scans : scans p ≤ scans left + scans right
  union_scans = le_of_eq {n = scans p} {m = scans left + scans right} (ap scans is)
