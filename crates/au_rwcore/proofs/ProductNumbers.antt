-- The numbers of Product's plan fit where those of the triples do.
use Rattle.std.specs.Prelude.{◌≤◌, ℕ, ◌+◌, ◌*◌, true, List, [], ◌∷◌, ◌++◌, length, map, flat_map, pos}
use Rattle.std.specs.List.{AllByRecursion}
use Rattle.std.proofs.Common.{arith, refl, sym, subst}
use Rattle.au_value.specs.declared.kinds.Kind.{Kind}
use Rattle.au_value.specs.declared.value.Value.{Value}
use Rattle.au_value.specs.declared.value.Value.TheVariants as value
use Rattle.au_annot.specs.Triples.{times}
use Rattle.au_expr.specs.Figures.{Fit}
use Rattle.au_expr.proofs.Fits.{fit_both, fit_parts}
use Rattle.au_algebra.specs.Ordinary.{Rows}
use Rattle.au_algebra.specs.Bounded as bounded
use Rattle.au_algebra.specs.Bounded.{RangeRow, Bounded}
use Rattle.au_algebra.specs.Fits.{triple_numbers}
use Rattle.au_algebra.specs.Laws.{IsRangeRow, IsRelation}
use Rattle.au_algebra.proofs.Each.{all_append}
use Rattle.au_plain.specs.PTerms.{Literal}
use Rattle.au_plain.specs.Plans.{PlanTree, Join}
use Rattle.au_plain.specs.Meaning.{plain_rows}
use Rattle.au_plain.specs.PlanNumbers.{plan_numbers, term_numbers}
use Rattle.au_encode.specs.Encode.{encode, encode_row}
use Rattle.au_rwexpr.specs.Adding.{grow_numbers}
use Rattle.au_rwexpr.specs.Flatten.{lo, sg, hi}
use Rattle.au_rwcore.specs.Core.{product_plan}
use Rattle.au_rwexpr.proofs.Careful.{careful, all_careful, careful_grow, column_fits, multiply_fits}
use Rattle.au_rwexpr.proofs.Coded.{cl, cg, cm}
use Rattle.au_rwexpr.proofs.Columns.{adds}
use Rattle.au_rwexpr.proofs.Gives.{GivesEncoded}
use Rattle.au_rwexpr.proofs.OnValues.{column_has}
use Rattle.au_rwexpr.proofs.Places.{ends}
use Rattle.au_rwexpr.proofs.PlanNumbersOf.{all_fit, fit_all, numbers-extend_all}
use Rattle.au_rwexpr.proofs.Allowed.{triple_of, all_of, all_split, factor_fits, other_fits}
use Rattle.au_rwcore.proofs.ProductRows.{new, joined, both, at_left, at_right, new_mean, pairs, joined_rows, all_present}

module _ (ks js : List Kind) where
  abbrev left : ℕ
  left = length ks

  abbrev right : ℕ
  right = length js

  abbrev t : ℕ
  t = 3 * left

  abbrev u : ℕ
  u = 3 * left + 3 + 3 * right

  abbrev FitRow : List Value → Type 0
  FitRow row = Fit (grow_numbers (new ks js) row)

  module _ (x y : RangeRow) (v : IsRangeRow ks x) (w : IsRangeRow js y) (f : Fit (triple_of (joined ks js x y))) where
    -- the counts of both and their products
    pair_fits : FitRow (encode_row x ++ encode_row y)
    pair_fits =
        let row = both ks js x y v w in
        let a = at_left ks js x y v w in
        let b = at_right ks js x y v w in
        let m = x.annot in
        let k = y.annot in
        let p = fit_parts (pos (m.least * k.least) ∷ []) (pos (m.guess * k.guess) ∷ pos (m.most * k.most) ∷ []) f in
        let q = fit_parts (pos (m.guess * k.guess) ∷ []) (pos (m.most * k.most) ∷ []) p.1 in
        let m_guess = v.triple.guess_most in
        let k_guess = w.triple.guess_most in
        let m_least : m.least ≤ m.most = omega (arith, v.triple.least_guess, m_guess) in
        let k_least : k.least ≤ k.most = omega (arith, w.triple.least_guess, k_guess) in
        let m_most : m.most ≤ m.most = omega arith in
        let k_most : k.most ≤ k.most = omega arith in
        let le = column_fits row t (cl m) (column_has row t (cl m) a.lo) (factor_fits m.least m.most k.most m_least w.present q.1) in
        let ge = column_fits row (t + 1) (cg m) (column_has row (t + 1) (cg m) a.sg) (factor_fits m.guess m.most k.most m_guess w.present q.1) in
        let me = column_fits row (t + 2) (cm m) (column_has row (t + 2) (cm m) a.hi) (factor_fits m.most m.most k.most m_most w.present q.1) in
        let lo_fit = column_fits row u (cl k) (column_has row u (cl k) b.lo) (other_fits k.least m.most k.most k_least v.present q.1) in
        let sg_fit = column_fits row (u + 1) (cg k) (column_has row (u + 1) (cg k) b.sg) (other_fits k.guess m.most k.most k_guess v.present q.1) in
        let hi_fit = column_fits row (u + 2) (cm k) (column_has row (u + 2) (cm k) b.hi) (other_fits k.most m.most k.most k_most v.present q.1) in
        let least = multiply_fits row (lo t) (lo u) (cl m) (cl k) (column_has row t (cl m) a.lo) (column_has row u (cl k) b.lo) le lo_fit p.0 in
        let guess = multiply_fits row (sg t) (sg u) (cg m) (cg k) (column_has row (t + 1) (cg m) a.sg) (column_has row (u + 1) (cg k) b.sg) ge sg_fit q.0 in
        let most = multiply_fits row (hi t) (hi u) (cm m) (cm k) (column_has row (t + 2) (cm m) a.hi) (column_has row (u + 2) (cm k) b.hi) me hi_fit q.1 in
        let vs = ends cl cg cm (times m k) in
        (careful_grow (new ks js) row (row ++ vs) (adds careful row (new ks js) vs (all_careful row (new ks js) vs (new_mean ks js x y v w) (least, (guess, (most, tt)))))).1

  abbrev Counted : RangeRow → Type 0
  Counted r = Fit (triple_of r)

  row_fits : (x : RangeRow) (ys : Bounded) → IsRangeRow ks x → IsRelation js ys → AllByRecursion Counted (map (joined ks js x) ys) → AllByRecursion FitRow (map (λ b. encode_row x ++ b) (encode ys))
  row_fits x [] v w h = tt
  row_fits x (y ∷ ys) v w h = (pair_fits x y v w.0 h.0, row_fits x ys v w.1 h.1)

  pairs_fit : (xs ys : Bounded) → IsRelation ks xs → IsRelation js ys → AllByRecursion Counted (flat_map (λ x. map (joined ks js x) ys) xs) → AllByRecursion FitRow (pairs ks js xs ys)
  pairs_fit [] ys v w h = tt
  pairs_fit (x ∷ xs) ys v w h =
      let p = all_split Counted (map (joined ks js x) ys) (flat_map (λ z. map (joined ks js z) ys) xs) h in
      all_append FitRow (map (λ b. encode_row x ++ b) (encode ys)) (pairs ks js xs ys) (row_fits x ys v.0 w p.0) (pairs_fit xs ys v.1 w p.1)

  -- Product's plan adds no number that does not fit.
  pub product_fits : (ts : List Rows) (p q : PlanTree) (xs ys : Bounded) → IsRelation ks xs → IsRelation js ys → GivesEncoded ts p xs → GivesEncoded ts q ys → Fit (triple_numbers (bounded.product xs ys)) → Fit (plan_numbers p ts) → Fit (plan_numbers q ts) → Fit (plan_numbers (product_plan left right p q) ts)
  product_fits ts p q xs ys v w g h f np nq =
      let always = Literal (value.Flag true) in
      let join = Join always p q in
      let all = flat_map (λ a. map (λ b. a ++ b) (plain_rows q ts)) (plain_rows p ts) in
      let tested : Fit (plan_numbers join ts) =
      fit_both (plan_numbers p ts ++ plan_numbers q ts) (flat_map (term_numbers always) all) (fit_both (plan_numbers p ts) (plan_numbers q ts) np nq)
      (fit_all (term_numbers always) all (all_of (λ row. Fit (term_numbers always row)) (λ row. refl) all)) in
      let counted = all_fit triple_of (flat_map (λ x. map (joined ks js x) ys) xs) (subst (λ rs. Fit (triple_numbers rs)) (all_present ks js xs ys v w) f) in
      numbers-extend_all ts (new ks js) join tested
      (subst (λ rs. AllByRecursion FitRow rs) (sym (joined_rows ks js ts p q xs ys g h)) (pairs_fit xs ys v w counted))
