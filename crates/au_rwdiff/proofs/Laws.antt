-- What the plan of Difference gives.
use Rattle.std.specs.Prelude.{◌≡◌, ℕ, ◌++◌, flat_map}
use Rattle.std.proofs.Common.{sym, subst}
use Rattle.au_expr.proofs.Fits.{fit_parts}
use Rattle.au_algebra.specs.Bounded as bounded
use Rattle.au_algebra.specs.Bounded.{combine}
use Rattle.au_algebra.specs.Fits.{triple_numbers, difference_sums}
use Rattle.au_algebra.proofs.DifferenceRelation.{difference_relation}
use Rattle.au_plain.specs.Plans.{PlanTree}
use Rattle.au_encode.specs.Gives.{GivesRelation}
use Rattle.au_encode.proofs.HeldCells.{gives_held}
use Rattle.au_combine.proofs.RowsApart.{combine_apart}
use Rattle.au_rwdiff.specs.Differences.{difference_plan}
use Rattle.au_rwdiff.specs.Gives.{Subtracts}
use Rattle.au_rwdiff.proofs.DifferenceKinds.{difference_kinds}
use Rattle.au_rwdiff.proofs.DifferenceNumbers.{difference_fits}
use Rattle.au_rwdiff.proofs.DifferenceRows.{difference_rows}

module _ (c : ℕ) (left right p : PlanTree) (is : p ≡ difference_plan c left right) where
  difference_as_is : Subtracts c left right (difference_plan c left right)
  difference_as_is kinds tables ks xs ys ms ns held long ok g h =
      let rows = combine xs in
      let own = triple_numbers rows ++ flat_map (difference_sums ys) rows in
      let apart = combine_apart ks xs ok in
      subst (λ n. GivesRelation kinds tables (difference_plan n left right) ks (bounded.difference xs ys) (ms ++ (ns ++ own))) long
      (record {
        typed = difference_kinds kinds ks left right g.typed h.typed;
        relation = difference_relation ks ys h.relation xs ok;
        encoded = difference_rows ks rows ys g.relation h.relation apart tables left right g.encoded h.encoded;
        fit = λ f.
            (let a = fit_parts ms (ns ++ own) f in
            let b = fit_parts ns own a.1 in
            let d = fit_parts (triple_numbers rows) (flat_map (difference_sums ys) rows) b.1 in
            difference_fits ks rows ys g.relation h.relation apart tables left right g.encoded h.encoded (gives_held kinds tables left ks rows ms g held a.0)
            (gives_held kinds tables right ks ys ns h held b.0) d.1 (g.fit a.0) (h.fit b.0));
      })

  pub difference_gives : Subtracts c left right p
  difference_gives = subst (λ q. Subtracts c left right q) (sym is) difference_as_is
