-- The numbers of Select's plan fit where those of the bounded operator do.
use Rattle.std.specs.Prelude.{◌≡◌, ℕ, ◌+◌, ◌*◌, true, not, List, [], ◌∷◌, ◌++◌, length, map, filter, flat_map, Some, pos}
use Rattle.std.specs.List.{AllByRecursion}
use Rattle.std.proofs.Common.{refl, sym, ◌∙◌, subst}
use Rattle.au_value.specs.declared.kinds.Kind.{Kind}
use Rattle.au_value.specs.declared.kinds.Kind.TheVariants.{Flag}
use Rattle.au_value.specs.declared.value.Value.{Value}
use Rattle.au_annot.specs.Triples.{is_none}
use Rattle.au_expr.specs.Terms.{Term}
use Rattle.au_expr.specs.Kinds.{kind_in}
use Rattle.au_expr.specs.Ordinary.{is_true}
use Rattle.au_expr.specs.OnRanges.{range_of}
use Rattle.au_expr.specs.Figures.{Fit}
use Rattle.au_expr.specs.Numbers.{components, expr_numbers}
use Rattle.au_expr.proofs.Fits.{fit_parts}
use Rattle.au_algebra.specs.Ordinary.{Rows}
use Rattle.au_algebra.specs.Bounded as bounded
use Rattle.au_algebra.specs.Bounded.{RangeRow, Bounded}
use Rattle.au_algebra.specs.Fits.{triple_numbers}
use Rattle.au_algebra.specs.Laws.{IsRangeRow, IsRelation}
use Rattle.au_plain.specs.PTerms.{Case}
use Rattle.au_plain.specs.Plans.{PlanTree, Filter, extend_all}
use Rattle.au_plain.specs.Meaning.{plain_rows, passes}
use Rattle.au_plain.specs.PlanNumbers.{plan_numbers, term_numbers}
use Rattle.au_encode.specs.Encode.{encode_row}
use Rattle.au_rwexpr.specs.Adding.{grow_numbers}
use Rattle.au_rwexpr.specs.Counts.{zero_term}
use Rattle.au_rwexpr.specs.Flatten.{before, flatten, lo, sg, hi}
use Rattle.au_rwcore.specs.Core.{select_plan}
use Rattle.au_rwexpr.proofs.Careful.{careful, Fits, all_careful, careful_grow, chosen_fits, column_fits}
use Rattle.au_rwexpr.proofs.Coded.{cl, cg}
use Rattle.au_rwexpr.proofs.Columns.{adds}
use Rattle.au_rwexpr.proofs.FlattenLaws.{numbers_stay}
use Rattle.au_rwexpr.proofs.Gives.{GivesEncoded}
use Rattle.au_rwexpr.proofs.OnNumbers.{components_fit, lo_fits, sg_fits, hi_fits}
use Rattle.au_rwexpr.proofs.OnValues.{lo_has, sg_has, column_has}
use Rattle.au_rwexpr.proofs.PlanNumbersOf.{all_fit, all_made, made_all, all_passing, passed_all, numbers-extend_all, numbers-filter}
use Rattle.au_rwexpr.proofs.Allowed.{triple_of, fits_now, all_both, left_fits}
use Rattle.au_rwcore.proofs.SelectRows.{one, new, selected, least_left, guess_left, long, at_whole, at_triple, same_test, new_mean, inner_rows}

module _ (ks : List Kind) (e : Term) (typed : kind_in ks e ≡ Some Flag) where
  abbrev c : ℕ
  c = length ks

  abbrev n : ℕ
  n = 3 * c + 3

  abbrev t : ℕ
  t = 3 * c

  abbrev i : ℕ
  i = n + before e

  abbrev wide : RangeRow → List Value
  wide r = one ks e typed r

  abbrev after : RangeRow → RangeRow
  after r = selected ks e typed r

  zero_fits : (row : List Value) → Fits row zero_term
  zero_fits row more = refl

  module _ (r : RangeRow) (v : IsRangeRow ks r) (fe : Fit (expr_numbers e r.cells)) where
    ends_fit : Fit (components (range_of e r.cells))
    ends_fit = components_fit ks r.cells (long ks r v) e fe

    -- the test of a row
    test_fits : Fit (term_numbers (hi i) (wide r))
    test_fits = fits_now (wide r) (hi i) (hi_fits (wide r) i (range_of e r.cells) (at_whole ks e typed r v) ends_fit)

    -- least and guess of a row that passes
    weighed_fit : Fit (triple_of (after r)) → Fit (grow_numbers (new ks e typed) (wide r))
    weighed_fit f =
        let a = range_of e r.cells in
        let row = wide r in
        let w = at_whole ks e typed r v in
        let k = at_triple ks e typed r v in
        let x = (after r).annot.least in
        let y = (after r).annot.guess in
        let z = (after r).annot.most in
        let p = fit_parts (pos x ∷ []) (pos y ∷ pos z ∷ []) f in
        let q = fit_parts (pos y ∷ []) (pos z ∷ []) p.1 in
        let least : Fits row (Case (lo i) (lo t) zero_term) =
        chosen_fits row (lo i) (lo t) zero_term a.lo (lo_has row i a w) (lo_fits row i a w ends_fit)
        (λ b. column_fits row t (cl r.annot) (column_has row t (cl r.annot) k.lo) (left_fits (is_true a.lo) r.annot.least b p.0)) (λ b. zero_fits row) in
        let guess : Fits row (Case (sg i) (sg t) zero_term) =
        chosen_fits row (sg i) (sg t) zero_term a.sg (sg_has row i a w) (sg_fits row i a w ends_fit)
        (λ b. column_fits row (t + 1) (cg r.annot) (column_has row (t + 1) (cg r.annot) k.sg) (left_fits (is_true a.sg) r.annot.guess b q.0)) (λ b. zero_fits row) in
        let vs = least_left ks e typed r ∷ guess_left ks e typed r ∷ [] in
        (careful_grow (new ks e typed) row (row ++ vs)
        (adds careful row (new ks e typed) vs (all_careful row (new ks e typed) vs (new_mean ks e typed r v) (least, (guess, tt))))).1

  abbrev Sound : RangeRow → Type 0
  Sound r = IsRangeRow ks r × Fit (expr_numbers e r.cells)

  abbrev Left : RangeRow → Type 0
  Left r = not (is_none r.annot) ≡ true → Fit (triple_of r)

  abbrev Passing : List Value → Type 0
  Passing row = passes (hi i) row ≡ true → Fit (grow_numbers (new ks e typed) row)

  -- Select's plan adds no number that does not fit.
  pub select_fits : (ts : List Rows) (p : PlanTree) (rows : Bounded) → IsRelation ks rows → GivesEncoded ts p rows → Fit (flat_map (λ r. expr_numbers e r.cells) rows ++ triple_numbers (bounded.select e rows)) → Fit (plan_numbers p ts) → Fit (plan_numbers (select_plan c e p) ts)
  select_fits ts p rows ok g f np =
      let parts = fit_parts (flat_map (λ r. expr_numbers e r.cells) rows) (triple_numbers (bounded.select e rows)) f in
      let sound : AllByRecursion Sound rows =
      all_both (IsRangeRow ks) (λ r. Fit (expr_numbers e r.cells)) rows ok (all_fit (λ r. expr_numbers e r.cells) rows parts.0) in
      let left : AllByRecursion Left (map after rows) =
      passed_all (λ r. Fit (triple_of r)) (λ r. Fit (triple_of r)) (λ r. not (is_none r.annot)) (map after rows)
      (all_fit triple_of (bounded.select e rows) parts.1) in
      let both : AllByRecursion (λ r. Sound r × Left (after r)) rows = made_all Sound Left after rows sound left in
      let inner = extend_all (flatten n e) p in
      let same : map wide rows ≡ plain_rows inner ts = sym (inner_rows ks e typed ts p rows ok g) in
      let first : Fit (plan_numbers inner ts) =
      numbers-extend_all ts (flatten n e) p np
      (subst (λ rs. AllByRecursion (λ row. Fit (grow_numbers (flatten n e) row)) rs) (sym g)
      (all_made Sound (λ row. Fit (grow_numbers (flatten n e) row)) encode_row rows sound (λ r q. numbers_stay c e ks Flag r refl typed q.0 q.1))) in
      let tested : Fit (plan_numbers (Filter (hi i) inner) ts) =
      numbers-filter ts (hi i) inner first
      (subst (λ rs. AllByRecursion (λ row. Fit (term_numbers (hi i) row)) rs) same
      (all_made Sound (λ row. Fit (term_numbers (hi i) row)) wide rows sound (λ r q. test_fits r q.0 q.1))) in
      numbers-extend_all ts (new ks e typed) (Filter (hi i) inner) tested
      (subst (λ rs. AllByRecursion (λ row. Fit (grow_numbers (new ks e typed) row)) (filter (passes (hi i)) rs)) same
      (all_passing Passing (λ row. Fit (grow_numbers (new ks e typed) row)) (passes (hi i)) (map wide rows)
      (all_made (λ r. Sound r × Left (after r)) Passing wide rows both (λ r q h. weighed_fit r q.0.0 q.0.1 (q.1 (sym (same_test ks e typed r q.0.0) ∙ h))))
      (λ row q h. q h)))
