-- The numbers of Total's plan fit where those of the rows and of the aggregates do.
use Rattle.std.specs.Prelude.{◌≡◌, ℕ, zero, suc, ◌+◌, ◌*◌, Bool, true, List, [], ◌∷◌, ◌++◌, length, map, filter, flat_map, sum_by, replicate, ℤ, pos, ◌*ℤ◌, nat_abs, unwrap_or, if◌then◌else◌}
use Rattle.std.specs.List.{AllByRecursion}
use Rattle.std.proofs.Common.{arith, refl, sym, ◌∙◌, subst, zero-add}
use Rattle.std.proofs.lemmas.Bool.{true≢false}
use Rattle.std.proofs.lemmas.List.{append-nil}
use Rattle.std.proofs.lemmas.List.Sums.{sum_by-cons}
use Rattle.au_value.specs.declared.kinds.Kind.{Kind}
use Rattle.au_value.specs.declared.value.Value.{Value}
use Rattle.au_value.specs.declared.value.Value.TheVariants as value
use Rattle.au_value.specs.Order.{below}
use Rattle.au_value.specs.Ranges.{Span, IsRangeOf, certain}
use Rattle.au_expr.specs.Figures.{Fit}
use Rattle.au_expr.specs.Numbers.{components}
use Rattle.au_expr.specs.Ordinary.{number}
use Rattle.au_expr.proofs.Fits.{fit_both, fit_parts}
use Rattle.au_algebra.specs.declared.query.Agg.{Agg}
use Rattle.au_algebra.specs.declared.query.Agg.TheVariants as agg
use Rattle.au_algebra.specs.Fits.{agg_numbers}
use Rattle.au_algebra.specs.Lists.{same_row, value_at}
use Rattle.au_algebra.specs.Ordinary.{Rows}
use Rattle.au_algebra.specs.Typing.{is_sum}
use Rattle.au_algebra.specs.Bounded.{RangeRow, Bounded, all_rows, lower_term, upper_term, guess_term}
use Rattle.au_algebra.specs.Laws.{IsRangeRow, IsRelation}
use Rattle.au_algebra.proofs.Each.{all_from}
use Rattle.au_algebra.proofs.Filters.{filter_all}
use Rattle.au_plain.specs.declared.expr.Comparison2.TheVariants.{Less}
use Rattle.au_plain.specs.PTerms.{PTerm, Compare, Multiply}
use Rattle.au_plain.specs.Plans as plan
use Rattle.au_plain.specs.Plans.{PlanTree, Keep, Union, Group, extend_all}
use Rattle.au_plain.specs.Meaning.{plain_rows}
use Rattle.au_plain.specs.PlanNumbers.{plan_numbers, group_numbers, magnitudes}
use Rattle.au_encode.specs.Encode.{encode_row}
use Rattle.au_encode.proofs.Decoded.{cells_length}
use Rattle.au_encode.proofs.HeldCells.{FitRow, AllFitRows}
use Rattle.au_rwexpr.specs.Adding.{grow_numbers}
use Rattle.au_rwexpr.specs.Cells.{run}
use Rattle.au_rwexpr.specs.Counts.{one_term, zero_term}
use Rattle.au_rwexpr.specs.Flatten.{lo, sg, hi, three}
use Rattle.au_rwexpr.proofs.Allowed.{all_both, all_of}
use Rattle.au_rwexpr.proofs.Careful.{careful, Fits, all_careful, careful_grow, chosen_fits, column_fits, compare_fits, multiply_fits}
use Rattle.au_rwexpr.proofs.Coded.{rl, rs, rh, cl, cg, cm}
use Rattle.au_rwexpr.proofs.Columns.{adds}
use Rattle.au_rwexpr.proofs.Gives.{GivesEncoded}
use Rattle.au_encode.proofs.HeldCells.{AllFit}
use Rattle.au_rwexpr.proofs.OnNumbers.{lo_fits, sg_fits, hi_fits}
use Rattle.au_rwexpr.proofs.OnValues.{Has, lo_has, sg_has, hi_has, column_has}
use Rattle.au_rwexpr.proofs.Picks.{coded_cells, coded_triple}
use Rattle.au_rwexpr.proofs.Places.{At, EndsOfAll, ends_at}
use Rattle.au_rwexpr.proofs.PlanNumbersOf.{all_fit, all_made, numbers-extend_all}
use Rattle.au_combine.proofs.BoxPlaces.{at_own}
use Rattle.au_combine.proofs.BoxRows.{cell}
use Rattle.au_rwgroup.specs.Totals.{agg_place, signed, total_columns, total_sums, sums, total_plan}
use Rattle.au_rwgroup.proofs.Signed.{below-zero, signed_number}
use Rattle.au_rwgroup.proofs.TotalRows as rows_of
use Rattle.au_rwgroup.proofs.TotalRows.{IsSumOf, low, mid, high, zero_at, no_key}

-- the magnitudes of a column of numbers
column_magnitudes : {S : Type 0} (P : S → Type 0) (f : S → List Value) (m : ℕ) (n : S → ℤ) → ((s : S) → P s → At (f s) m (value.Int (n s))) → (xs : List S) → AllByRecursion P xs → sum_by (λ row. nat_abs (number (value_at row m))) (map f xs) ≡ sum_by nat_abs (map n xs)
column_magnitudes P f m n at [] v = refl
column_magnitudes P f m n at (x ∷ xs) v =
    sum_by-cons (λ row. nat_abs (number (value_at row m))) (f x) (map f xs)
    ∙ (λ i. nat_abs (number (unwrap_or (at x v.0 i) (value.Int (pos 0)))) + column_magnitudes P f m n at xs v.1 i)
    ∙ sym (sum_by-cons nat_abs (n x) (map n xs))

-- what holds of each pair, by the items of either list
turned : {A B : Type 0} (Q : A → B → Type 0) (xs : List A) (ys : List B) → AllByRecursion (λ a. AllByRecursion (λ b. Q a b) ys) xs → AllByRecursion (λ b. AllByRecursion (λ a. Q a b) xs) ys
turned Q xs [] h = tt
turned Q xs (y ∷ ys) h = (
  all_from (λ a. AllByRecursion (λ b. Q a b) (y ∷ ys)) (λ a. Q a y) xs (λ a k. k.0) h,
  turned Q xs ys (all_from (λ a. AllByRecursion (λ b. Q a b) (y ∷ ys)) (λ a. AllByRecursion (λ b. Q a b) ys) xs (λ a k. k.1) h),
)

-- a cell of ranges that fit
cell_fits : (xs : List Span) (d : ℕ) → AllFit xs → Fit (components (cell xs d))
cell_fits [] d h = refl
cell_fits (x ∷ xs) zero h = h.0
cell_fits (x ∷ xs) (suc d) h = cell_fits xs d h.1

-- a signed term fits where its number and its parts do
pub signed_fits : (row : List Value) (a b x : PTerm) (m k : ℕ) (v : Value) → Has row a (value.Int (pos m)) → Has row b (value.Int (pos k)) → Has row x v → Fits row a → Fits row b → Fits row x → Fit (signed_number m k v ∷ []) → Fits row (signed a b x)
signed_fits row a b x m k v p q r fa fb fx f =
    let zero_value = value.Int (pos 0) in
    let chosen = λ (t : Bool). Fit ((if t then pos m *ℤ number v else pos k *ℤ number v) ∷ []) in
    chosen_fits row (Compare Less x zero_term) (Multiply a x) (Multiply b x) (value.Flag (below v zero_value)) (λ more i. value.Flag (below (r more i) zero_value))
    (compare_fits row x zero_term fx (λ more. refl) Less)
    (λ h. multiply_fits row a x (value.Int (pos m)) v p r fa fx (subst chosen (sym (below-zero v) ∙ h) f))
    (λ h. multiply_fits row b x (value.Int (pos k)) v q r fb fx (subst chosen (sym (below-zero v) ∙ h) f))

-- the three terms of a row fit
abbrev pub TermsFit : RangeRow → Agg → Type 0
TermsFit r a = Fit (lower_term (all_rows []) (agg_place a) r ∷ []) × (Fit (guess_term (agg_place a) r ∷ []) × Fit (upper_term (all_rows []) (agg_place a) r ∷ []))

-- the terms of all rows fit, and the sums of their magnitudes
pub record SumFits (rows : Bounded) (a : Agg) : Type 0 where
  pub terms : AllByRecursion (λ r. TermsFit r a) rows
  pub lower : Fit (pos (sum_by nat_abs (map (lower_term (all_rows []) (agg_place a)) rows)) ∷ [])
  pub guess : Fit (pos (sum_by nat_abs (map (guess_term (agg_place a)) rows)) ∷ [])
  pub upper : Fit (pos (sum_by nat_abs (map (upper_term (all_rows []) (agg_place a)) rows)) ∷ [])

each_fits : (f : RangeRow → ℤ) (rows : Bounded) → Fit (map f rows) → AllByRecursion (λ r. Fit (f r ∷ [])) rows
each_fits f [] h = tt
each_fits f (r ∷ rows) h = let p = fit_parts (f r ∷ []) (map f rows) h in (p.0, each_fits f rows p.1)

sum_fits : (rows : Bounded) (a : Agg) → is_sum a ≡ true → Fit (agg_numbers (all_rows rows) a) → SumFits rows a
sum_fits rows (agg.Sum d) s h =
    let f = lower_term (all_rows []) d in
    let g = guess_term d in
    let u = upper_term (all_rows []) d in
    let fs = pos (sum_by nat_abs (map f rows)) ∷ map f rows in
    let gs = pos (sum_by nat_abs (map g rows)) ∷ map g rows in
    let us = pos (sum_by nat_abs (map u rows)) ∷ map u rows in
    let p = fit_parts fs (gs ++ us) h in
    let q = fit_parts gs us p.1 in
    let l = fit_parts (pos (sum_by nat_abs (map f rows)) ∷ []) (map f rows) p.0 in
    let m = fit_parts (pos (sum_by nat_abs (map g rows)) ∷ []) (map g rows) q.0 in
    let n = fit_parts (pos (sum_by nat_abs (map u rows)) ∷ []) (map u rows) q.1 in
    record {
      terms = all_both (λ r. Fit (f r ∷ [])) (λ r. Fit (g r ∷ []) × Fit (u r ∷ [])) rows (each_fits f rows l.1)
          (all_both (λ r. Fit (g r ∷ [])) (λ r. Fit (u r ∷ [])) rows (each_fits g rows m.1) (each_fits u rows n.1));
      lower = l.0;
      guess = m.0;
      upper = n.0;
    }
sum_fits rows (agg.Min d) s h = absurd (true≢false (sym s))
sum_fits rows (agg.Max d) s h = absurd (true≢false (sym s))

module _ (ks : List Kind) where
  abbrev c : ℕ
  c = length ks

  abbrev t : ℕ
  t = 3 * c

  abbrev n : ℕ
  n = 3 * c + 3

  -- the columns of a row fit
  columns_fit : (aggs : List Agg) → AllByRecursion (IsSumOf c) aggs → (r : RangeRow) → IsRangeRow ks r → FitRow r → AllByRecursion (λ a. TermsFit r a) aggs → AllByRecursion (Fits (encode_row r)) (total_columns t aggs)
  columns_fit [] ok r v f h = tt
  columns_fit (a ∷ aggs) ok r v f h =
      let row = encode_row r in
      let long = cells_length IsRangeOf ks r.cells v.cells in
      let i = 3 * agg_place a in
      let x = cell r.cells (agg_place a) in
      let w = coded_triple rl rs rh cl cg cm c r.cells r.annot long in
      let here = at_own r.cells (agg_place a) (certain (value.Int (pos 0))) (omega (arith, long, ok.0.1)) in
      let e = ends_at rl rs rh row 0 (agg_place a) i r.cells x (coded_cells rl rs rh cl cg cm c r.cells r.annot long) here (omega arith) in
      let p = fit_parts (pos r.annot.least ∷ []) (pos r.annot.guess ∷ pos r.annot.most ∷ []) f.triple in
      let q = fit_parts (pos r.annot.guess ∷ []) (pos r.annot.most ∷ []) p.1 in
      let l = column_has row t (cl r.annot) w.lo in
      let g = column_has row (t + 1) (cg r.annot) w.sg in
      let m = column_has row (t + 2) (cm r.annot) w.hi in
      let fl = column_fits row t (cl r.annot) l p.0 in
      let fg = column_fits row (t + 1) (cg r.annot) g q.0 in
      let fm = column_fits row (t + 2) (cm r.annot) m q.1 in
      let fx = cell_fits r.cells (agg_place a) f.cells in (
        signed_fits row (hi t) (lo t) (lo i) r.annot.most r.annot.least x.lo m l (lo_has row i x e) fm fl (lo_fits row i x e fx) h.0.0,
        (
          multiply_fits row (sg t) (sg i) (cg r.annot) x.sg g (sg_has row i x e) fg (sg_fits row i x e fx) h.0.1.0,
          (
            signed_fits row (lo t) (hi t) (hi i) r.annot.least r.annot.most x.hi l m (hi_has row i x e) fl fm (hi_fits row i x e fx) h.0.1.1,
            columns_fit aggs ok.1 r v f h.1,
          ),
        ),
      )

  module _ (aggs : List Agg) (ok : AllByRecursion (IsSumOf c) aggs) where
    abbrev w : ℕ
    w = length (total_columns t aggs)

    abbrev terms : RangeRow → List Value
    terms r = rows_of.terms ks aggs ok r

    abbrev zeros : List Value
    zeros = replicate w (value.Int (pos 0))

    -- the numbers of a row's columns
    row_numbers : (r : RangeRow) → IsRangeRow ks r → FitRow r → AllByRecursion (λ a. TermsFit r a) aggs → Fit (grow_numbers (total_columns t aggs) (encode_row r))
    row_numbers r v f h =
        let row = encode_row r in
        let columns = total_columns t aggs in
        (careful_grow columns row (row ++ terms r)
        (adds careful row columns (terms r) (all_careful row columns (terms r) (rows_of.columns_mean ks aggs ok r v) (columns_fit aggs ok r v f h)))).1

    -- the magnitudes of a sum over the terms of all rows and a row of zeros
    one_magnitude : (i : ℕ) (f : RangeRow → ℤ) (rows : Bounded) → IsRelation ks rows → ((r : RangeRow) → At (terms r) i (value.Int (f r))) → sum_by (λ row. nat_abs (number (value_at row i))) (zeros ∷ map terms rows) ≡ sum_by nat_abs (map f rows)
    one_magnitude i f rows v at =
        sum_by-cons (λ row. nat_abs (number (value_at row i))) zeros (map terms rows)
        ∙ (λ j. nat_abs (number (zero_at w i j)) + column_magnitudes (IsRangeRow ks) terms i f (λ r p. at r) rows v j)
        ∙ zero-add (sum_by nat_abs (map f rows))

    all_magnitudes : (i : ℕ) (bs : List Agg) (rows : Bounded) → IsRelation ks rows → ((r : RangeRow) → EndsOfAll (low r) (mid r) (high r) (terms r) i bs) → AllByRecursion (SumFits rows) bs → Fit (flat_map (magnitudes (zeros ∷ map terms rows)) (total_sums i bs))
    all_magnitudes i [] rows v at h = refl
    all_magnitudes i (b ∷ bs) rows v at h =
        let all = zeros ∷ map terms rows in
        let count = λ (m : ℕ). sum_by (λ row. nat_abs (number (value_at row m))) all in
        let single = λ (m : ℕ). Fit (pos m ∷ []) in
        let l = subst single (sym (one_magnitude i (lower_term (all_rows []) (agg_place b)) rows v (λ r. (at r).0.lo))) h.0.lower in
        let g = subst single (sym (one_magnitude (i + 1) (guess_term (agg_place b)) rows v (λ r. (at r).0.sg))) h.0.guess in
        let u = subst single (sym (one_magnitude (i + 2) (upper_term (all_rows []) (agg_place b)) rows v (λ r. (at r).0.hi))) h.0.upper in
        let rest = flat_map (magnitudes all) (total_sums (i + 3) bs) in
        fit_both (pos (count i) ∷ []) (pos (count (i + 1)) ∷ pos (count (i + 2)) ∷ rest) l
        (fit_both (pos (count (i + 1)) ∷ []) (pos (count (i + 2)) ∷ rest) g
        (fit_both (pos (count (i + 2)) ∷ []) rest u (all_magnitudes (i + 3) bs rows v (λ r. (at r).1) h.1)))

    -- the sums are taken over one group
    grouping_numbers : (rows : Bounded) → group_numbers [] (total_sums 0 aggs) (zeros ∷ map terms rows) ≡ flat_map (magnitudes (zeros ∷ map terms rows)) (total_sums 0 aggs)
    grouping_numbers rows =
        let all = zeros ∷ map terms rows in
        (λ i. flat_map (λ key. flat_map (magnitudes (filter (λ row. same_row key []) all)) (total_sums 0 aggs)) (no_key (map terms rows) i))
        ∙ (λ i. flat_map (magnitudes (filter_all all i)) (total_sums 0 aggs) ++ [])
        ∙ append-nil (flat_map (magnitudes all) (total_sums 0 aggs))

    -- The plan of the sums adds no number that does not fit.
    pub sums_fit : (ts : List Rows) (p : PlanTree) (rows : Bounded) → IsRelation ks rows → GivesEncoded ts p rows → AllFitRows rows → Fit (flat_map (agg_numbers (all_rows rows)) aggs) → Fit (plan_numbers p ts) → Fit (plan_numbers (sums c aggs p) ts)
    sums_fit ts p rows v g held f np =
        let columns = total_columns t aggs in
        let terms_plan = Keep (run n w) (extend_all columns p) in
        let all = Union (plan.Rows w (zeros ∷ [])) terms_plan in
        let ones = three one_term one_term one_term in
        let grouped = Group [] (total_sums 0 aggs) all in
        let each : AllByRecursion (SumFits rows) aggs =
        all_from (λ a. IsSumOf c a × Fit (agg_numbers (all_rows rows) a)) (SumFits rows) aggs (λ a h. sum_fits rows a h.0.0 h.1)
        (all_both (IsSumOf c) (λ a. Fit (agg_numbers (all_rows rows) a)) aggs ok (all_fit (agg_numbers (all_rows rows)) aggs f)) in
        let by_row : AllByRecursion (λ r. AllByRecursion (λ a. TermsFit r a) aggs) rows =
        turned (λ a r. TermsFit r a) aggs rows (all_from (SumFits rows) (λ a. AllByRecursion (λ r. TermsFit r a) rows) aggs (λ a h. h.terms) each) in
        let sound = all_both (IsRangeRow ks) (λ r. FitRow r × AllByRecursion (λ a. TermsFit r a) aggs) rows v (all_both FitRow (λ r. AllByRecursion (λ a. TermsFit r a) aggs) rows held by_row) in
        let wider : Fit (plan_numbers (extend_all columns p) ts) =
        numbers-extend_all ts columns p np
        (subst (λ rs. AllByRecursion (λ row. Fit (grow_numbers columns row)) rs) (sym g)
        (all_made (λ r. IsRangeRow ks r × (FitRow r × AllByRecursion (λ a. TermsFit r a) aggs)) (λ row. Fit (grow_numbers columns row)) encode_row rows sound (λ r q. row_numbers r q.0 q.1.0 q.1.1))) in
        let summed : Fit (group_numbers [] (total_sums 0 aggs) (plain_rows all ts)) =
        subst (λ rs. Fit (group_numbers [] (total_sums 0 aggs) (zeros ∷ rs))) (sym (rows_of.term_rows ks aggs ok ts p rows v g))
        (subst (λ ns. Fit ns) (sym (grouping_numbers rows)) (all_magnitudes 0 aggs rows v (λ r. rows_of.terms_there ks aggs ok r) each)) in
        numbers-extend_all ts ones grouped
        (fit_both (plan_numbers all ts) (group_numbers [] (total_sums 0 aggs) (plain_rows all ts)) wider summed)
        (all_of (λ row. Fit (grow_numbers ones row)) (λ row. refl) (plain_rows grouped ts))

-- Total's plan adds no number that does not fit.
pub total_fits : (ks : List Kind) (aggs : List Agg) → AllByRecursion (IsSumOf (length ks)) aggs → (ts : List Rows) (p : PlanTree) (rows : Bounded) → IsRelation ks rows → GivesEncoded ts p rows → AllFitRows rows → Fit (flat_map (agg_numbers (all_rows rows)) aggs) → Fit (plan_numbers p ts) → Fit (plan_numbers (total_plan (length ks) aggs p) ts)
total_fits ks [] ok ts p rows v g held f np = refl
total_fits ks (a ∷ aggs) ok ts p rows v g held f np = sums_fit ks (a ∷ aggs) ok ts p rows v g held f np
