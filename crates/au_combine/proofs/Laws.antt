-- What the plan of Combine gives, with the numbers that it makes and the Scans that it has.
use Rattle.std.specs.Prelude.{◌≡◌, ◌≤◌, ℕ, ◌++◌}
use Rattle.std.proofs.Common.{sym, ap, subst}
use Rattle.std.proofs.Math.Nat.{le_of_eq}
use Rattle.au_expr.proofs.Fits.{fit_parts}
use Rattle.au_algebra.specs.Bounded as bounded
use Rattle.au_algebra.specs.Fits.{triple_numbers}
use Rattle.au_algebra.proofs.DifferenceRelation.{combine_relation}
use Rattle.au_plain.specs.Plans.{PlanTree}
use Rattle.au_plain.specs.PlanNumbers.{scans}
use Rattle.au_encode.specs.Gives.{GivesRelation}
use Rattle.au_combine.specs.Boxes.{combine_plan}
use Rattle.au_combine.specs.Gives.{Combines}
use Rattle.au_combine.proofs.BoxKinds.{combine_kinds}
use Rattle.au_combine.proofs.CombineRows as on_rows
use Rattle.au_combine.proofs.CombineNumbers.{combine_fits}

module _ (c : ℕ) (of p : PlanTree) (is : p ≡ combine_plan c of) where
  combine_as_is : Combines c of (combine_plan c of)
  combine_as_is kinds tables ks rows ns long g =
      let own = triple_numbers (bounded.combine rows) in
      subst (λ n. GivesRelation kinds tables (combine_plan n of) ks (bounded.combine rows) (ns ++ own)) long
      (record {
        typed = combine_kinds kinds ks of g.typed;
        relation = combine_relation ks rows g.relation;
        encoded = on_rows.combine_gives ks tables of rows g.relation g.encoded;
        fit = λ f. (let p = fit_parts ns own f in combine_fits ks tables of rows g.relation g.encoded p.1 (g.fit p.0));
      })

  pub combine_gives : Combines c of p
  combine_gives = subst (λ q. Combines c of q) (sym is) combine_as_is

  pub combine_scans : scans p ≤ scans of
  combine_scans = le_of_eq {n = scans p} {m = scans of} (ap scans is)
