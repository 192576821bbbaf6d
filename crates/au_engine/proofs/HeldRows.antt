-- The numbers of a physical plan's rows lie in the range where those of the tables and of the plan do.
use Rattle.std.specs.Prelude.{◌≡◌, List, [], ◌∷◌, ◌++◌, length, map, flat_map, option_and_then, Some}
use Rattle.std.proofs.Common.{refl, ◌∙◌, ap, eq-eqb}
use Rattle.au_value.specs.declared.kinds.Kind.{Kind}
use Rattle.au_value.specs.declared.value.Value.{Value}
use Rattle.au_expr.specs.Figures.{Fit}
use Rattle.au_expr.proofs.Fits.{fit_parts}
use Rattle.au_algebra.specs.Ordinary.{Rows}
use Rattle.au_algebra.proofs.Each.{all_append, all_filter}
use Rattle.au_algebra.proofs.Items.{and_then_is}
use Rattle.au_plain.specs.Meaning.{passes}
use Rattle.au_plain.specs.PlanKinds.{FitRows, FitTables, plan_kinds}
use Rattle.au_plain.specs.PlanNumbers.{group_numbers, term_numbers}
use Rattle.au_plain.specs.Plans as plan
use Rattle.au_plain.proofs.Held.{RowFits, joined_fits, rows_fit}
use Rattle.au_physical.specs.PhysicalKinds.{physical_kinds}
use Rattle.au_physical.specs.PhysicalMeaning.{by_range, equal_at, equal_pairs, overlap_pairs, overlaps, physical_rows}
use Rattle.au_physical.specs.PhysicalNumbers.{physical_numbers}
use Rattle.au_physical.specs.Physicals.{PhysicalTree}
use Rattle.au_physical.specs.Physicals as physical
use Rattle.au_plan.proofs.UpToOrder.{all_chosen, all_same, same_by_range}

-- a Scan of the only table has its kinds
alone : (ks : List Kind) → plan_kinds (ks ∷ []) (plan.Scan 0 (length ks)) ≡ Some ks
alone ks = let e = eq-eqb (length ks) (length ks) refl in rw e

-- one row with each of some rows, and each pair
beside_fit : (row : List Value) (rows : Rows) → RowFits row → FitRows rows → FitRows (map (λ b. row ++ b) rows)
beside_fit row [] h k = tt
beside_fit row (b ∷ rows) h k = (joined_fits row b h k.0, beside_fit row rows h k.1)

pairs_fit : (xs ys : Rows) → FitRows xs → FitRows ys → FitRows (flat_map (λ a. map (λ b. a ++ b) ys) xs)
pairs_fit [] ys h k = tt
pairs_fit (x ∷ xs) ys h k = all_append RowFits (map (λ b. x ++ b) ys) (flat_map (λ a. map (λ b. a ++ b) ys) xs) (beside_fit x ys h.0 k) (pairs_fit xs ys h.1 k)

module _ (kinds : List (List Kind)) (ts : List Rows) (h : FitTables ts) where
  pub physical_fit : (ks : List Kind) (q : PhysicalTree) → physical_kinds kinds q ≡ Some ks → Fit (physical_numbers q ts) → FitRows (physical_rows q ts)
  physical_fit ks (physical.Scan t w) e f = rows_fit kinds ks (plan.Scan t w) ts e h refl
  physical_fit ks (physical.Rows w rows) e f = rows_fit kinds ks (plan.Rows w rows) ts e h refl
  physical_fit ks (physical.Extend c q) e f =
      let own = and_then_is _ (physical_kinds kinds q) ks e in
      let n = fit_parts (physical_numbers q ts) (flat_map (term_numbers c) (physical_rows q ts)) f in
      rows_fit (own.0 ∷ []) ks (plan.Extend c (plan.Scan 0 (length own.0))) (physical_rows q ts ∷ []) (ap (option_and_then _) (alone own.0) ∙ own.2)
      (physical_fit own.0 q own.1 n.0, tt) n.1
  physical_fit ks (physical.Keep places q) e f =
      let own = and_then_is _ (physical_kinds kinds q) ks e in
      rows_fit (own.0 ∷ []) ks (plan.Keep places (plan.Scan 0 (length own.0))) (physical_rows q ts ∷ []) (ap (option_and_then _) (alone own.0) ∙ own.2)
      (physical_fit own.0 q own.1 f, tt) refl
  physical_fit ks (physical.Filter c q) e f =
      let own = and_then_is _ (physical_kinds kinds q) ks e in
      let n = fit_parts (physical_numbers q ts) (flat_map (term_numbers c) (physical_rows q ts)) f in
      all_filter RowFits (passes c) (physical_rows q ts) (physical_fit own.0 q own.1 n.0)
  physical_fit ks (physical.Nested c q r) e f =
      let left = and_then_is _ (physical_kinds kinds q) ks e in
      let right = and_then_is _ (physical_kinds kinds r) ks left.2 in
      let pairs = flat_map (λ a. map (λ b. a ++ b) (physical_rows r ts)) (physical_rows q ts) in
      let n = fit_parts (physical_numbers q ts ++ physical_numbers r ts) (flat_map (term_numbers c) pairs) f in
      let m = fit_parts (physical_numbers q ts) (physical_numbers r ts) n.0 in
      all_filter RowFits (passes c) pairs
      (pairs_fit (physical_rows q ts) (physical_rows r ts) (physical_fit left.0 q left.1 m.0) (physical_fit right.0 r right.1 m.1))
  physical_fit ks (physical.Hash places c q r) e f =
      let left = and_then_is _ (physical_kinds kinds q) ks e in
      let right = and_then_is _ (physical_kinds kinds r) ks left.2 in
      let pairs = equal_pairs places (physical_rows q ts) (physical_rows r ts) in
      let n = fit_parts (physical_numbers q ts ++ physical_numbers r ts) (flat_map (term_numbers c) pairs) f in
      let m = fit_parts (physical_numbers q ts) (physical_numbers r ts) n.0 in
      all_filter RowFits (passes c) pairs
      (all_chosen RowFits (equal_at places) (physical_rows q ts) (physical_rows r ts)
      (pairs_fit (physical_rows q ts) (physical_rows r ts) (physical_fit left.0 q left.1 m.0) (physical_fit right.0 r right.1 m.1)))
  physical_fit ks (physical.Overlap at c q r) e f =
      let left = and_then_is _ (physical_kinds kinds q) ks e in
      let right = and_then_is _ (physical_kinds kinds r) ks left.2 in
      let pairs = overlap_pairs at (physical_rows q ts) (physical_rows r ts) in
      let n = fit_parts (physical_numbers q ts ++ physical_numbers r ts) (flat_map (term_numbers c) pairs) f in
      let m = fit_parts (physical_numbers q ts) (physical_numbers r ts) n.0 in
      let ordered = all_same RowFits (by_range at (physical_rows r ts)) (physical_rows r ts) (same_by_range at (physical_rows r ts)) (physical_fit right.0 r right.1 m.1) in
      all_filter RowFits (passes c) pairs
      (all_chosen RowFits (overlaps at) (physical_rows q ts) (by_range at (physical_rows r ts))
      (pairs_fit (physical_rows q ts) (by_range at (physical_rows r ts)) (physical_fit left.0 q left.1 m.0) ordered))
  physical_fit ks (physical.Union q r) e f =
      let left = and_then_is _ (physical_kinds kinds q) ks e in
      let right = and_then_is _ (physical_kinds kinds r) ks left.2 in
      let m = fit_parts (physical_numbers q ts) (physical_numbers r ts) f in
      all_append RowFits (physical_rows q ts) (physical_rows r ts) (physical_fit left.0 q left.1 m.0) (physical_fit right.0 r right.1 m.1)
  physical_fit ks (physical.Group keys aggs q) e f =
      let own = and_then_is _ (physical_kinds kinds q) ks e in
      let n = fit_parts (physical_numbers q ts) (group_numbers keys aggs (physical_rows q ts)) f in
      rows_fit (own.0 ∷ []) ks (plan.Group keys aggs (plan.Scan 0 (length own.0))) (physical_rows q ts ∷ []) (ap (option_and_then _) (alone own.0) ∙ own.2)
      (physical_fit own.0 q own.1 n.0, tt) n.1
