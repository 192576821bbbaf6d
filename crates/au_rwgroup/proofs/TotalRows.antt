-- The row of Total as a plan is that of the bounded operator.
use Rattle.std.specs.Prelude.{◌≡◌, ◌<◌, ℕ, zero, suc, ◌+◌, ◌*◌, true, not, List, [], ◌∷◌, ◌++◌, length, map, filter, replicate, ℤ, pos, ◌+ℤ◌, unwrap_or, Some}
use Rattle.std.specs.List.{AllByRecursion}
use Rattle.std.proofs.Common.{arith, refl, sym, ◌∙◌, ap, subst}
use Rattle.std.proofs.Math.IntN.{+ℤ_idl}
use Rattle.std.proofs.lemmas.List.{append-nil}
use Rattle.au_value.specs.declared.kinds.Kind.{Kind}
use Rattle.au_value.specs.declared.value.Value.{Value}
use Rattle.au_value.specs.declared.value.Value.TheVariants as value
use Rattle.au_value.specs.Ranges.{IsRangeOf, range, certain}
use Rattle.au_value.specs.Lists.{distinct}
use Rattle.au_annot.specs.Triples.{one}
use Rattle.au_expr.specs.Ordinary as on_values
use Rattle.au_expr.specs.Ordinary.{number}
use Rattle.au_algebra.specs.declared.query.Agg.{Agg}
use Rattle.au_algebra.specs.declared.query.Agg.TheVariants as agg
use Rattle.au_algebra.specs.Entries.{entry}
use Rattle.au_algebra.specs.Lists.{same_row, int_sum, value_at}
use Rattle.au_algebra.specs.Ordinary.{Rows}
use Rattle.au_algebra.specs.Typing.{is_sum}
use Rattle.au_algebra.specs.Bounded as bounded
use Rattle.au_algebra.specs.Bounded.{RangeRow, Bounded, all_rows, lower_term, upper_term, guess_term, aggregate}
use Rattle.au_algebra.specs.Laws.{IsRangeRow, IsRelation}
use Rattle.au_algebra.proofs.Filters.{filter_all}
use Rattle.au_plain.specs.declared.plan.PAgg.TheVariants.{Sum}
use Rattle.au_plain.specs.Plans as plan
use Rattle.au_plain.specs.Plans.{PlanTree, Keep, Union, Group, extend_all}
use Rattle.au_plain.specs.Meaning.{plain_rows, kept, plain_aggregate, plain_group}
use Rattle.au_encode.specs.Encode.{encode_row, encode_cells}
use Rattle.au_encode.proofs.Decoded.{cells_length}
use Rattle.au_rwexpr.specs.Flatten.{lo, hi, three}
use Rattle.au_rwexpr.specs.Cells.{run}
use Rattle.au_rwexpr.specs.Counts.{one_term}
use Rattle.au_rwgroup.specs.Totals.{agg_place, total_columns, total_sums, sums, total_plan}
use Rattle.au_rwexpr.proofs.Places.{At, EndsOfAll, all_ends, all_ends_at, ends_at}
use Rattle.au_rwexpr.proofs.Columns.{adds, AllMean}
use Rattle.au_rwexpr.proofs.OnValues.{reading, lo_has, sg_has, hi_has, column_has}
use Rattle.au_rwexpr.proofs.Picks.{kept_are, coded_cells, coded_triple, coded_long}
use Rattle.au_combine.proofs.BoxPlaces.{at_own, run_picks}
use Rattle.au_combine.proofs.BoxRows.{cell}
use Rattle.au_rwexpr.proofs.Gives.{GivesEncoded, grow_is, same_map, rows-extend_all, map-map, map_valid}
use Rattle.au_rwexpr.specs.Adding.{grow}
use Rattle.au_rwgroup.proofs.Signed.{signed_has}
use Rattle.au_rwexpr.proofs.Coded.{rl, rs, rh, cl, cg, cm}

-- an aggregate that Total takes over so many columns
abbrev pub IsSumOf : ℕ → Agg → Type 0
IsSumOf c a = (is_sum a ≡ true) × (agg_place a < c)

-- what a row adds to the three sums
abbrev pub low : RangeRow → Agg → Value
low r a = value.Int (lower_term (all_rows []) (agg_place a) r)

abbrev pub mid : RangeRow → Agg → Value
mid r a = value.Int (guess_term (agg_place a) r)

abbrev pub high : RangeRow → Agg → Value
high r a = value.Int (upper_term (all_rows []) (agg_place a) r)

-- a row of zeros
pub zero_at : (w i : ℕ) → value_at (replicate w (value.Int (pos 0))) i ≡ value.Int (pos 0)
zero_at zero i = refl
zero_at (suc w) zero = refl
zero_at (suc w) (suc i) = zero_at w i

-- rows that agree with no key
pub no_key : {A : Type 0} (xs : List A) → distinct same_row ([] ∷ map (λ (x : A). []) xs) ≡ [] ∷ []
no_key [] = refl
no_key (x ∷ xs) = (λ i. [] ∷ filter (λ y. not (same_row [] y)) (no_key xs i))

module _ (ks : List Kind) where
  abbrev c : ℕ
  c = length ks

  abbrev t : ℕ
  t = 3 * c

  abbrev n : ℕ
  n = 3 * c + 3

  -- what the columns hold
  pub columns_mean : (aggs : List Agg) → AllByRecursion (IsSumOf c) aggs → (r : RangeRow) → IsRangeRow ks r → AllMean reading (encode_row r) (total_columns t aggs) (all_ends (low r) (mid r) (high r) aggs)
  columns_mean [] ok r v = tt
  columns_mean (a ∷ aggs) ok r v =
      let row = encode_row r in
      let long = cells_length IsRangeOf ks r.cells v.cells in
      let i = 3 * agg_place a in
      let x = cell r.cells (agg_place a) in
      let w = coded_triple rl rs rh cl cg cm c r.cells r.annot long in
      let here = at_own r.cells (agg_place a) (certain (value.Int (pos 0))) (omega (arith, long, ok.0.1)) in
      let e = ends_at rl rs rh row 0 (agg_place a) i r.cells x (coded_cells rl rs rh cl cg cm c r.cells r.annot long) here (omega arith) in
      let l = column_has row t (cl r.annot) w.lo in
      let g = column_has row (t + 1) (cg r.annot) w.sg in
      let m = column_has row (t + 2) (cm r.annot) w.hi in (
        (λ more. ap Some (signed_has row (hi t) (lo t) (lo i) r.annot.most r.annot.least x.lo m l (lo_has row i x e) more)),
        (
          (λ more. λ k. Some (on_values.multiply (g more k) (sg_has row i x e more k))),
          (
            (λ more. ap Some (signed_has row (lo t) (hi t) (hi i) r.annot.least r.annot.most x.hi l m (hi_has row i x e) more)),
            columns_mean aggs ok.1 r v,
          ),
        ),
      )

  module _ (aggs : List Agg) (ok : AllByRecursion (IsSumOf c) aggs) where
    abbrev w : ℕ
    w = length (total_columns t aggs)

    -- the columns of a row that are summed
    abbrev pub terms : RangeRow → List Value
    terms r = all_ends (low r) (mid r) (high r) aggs

    columns_long : (bs : List Agg) (r : RangeRow) → length (all_ends (low r) (mid r) (high r) bs) ≡ length (total_columns t bs)
    columns_long [] r = refl
    columns_long (b ∷ bs) r = ap (λ m. suc (suc (suc m))) (columns_long bs r)

    each_row : (r : RangeRow) → IsRangeRow ks r → kept (run n w) (grow (total_columns t aggs) (encode_row r)) ≡ terms r
    each_row r v =
        let row = encode_row r in
        let row_long = coded_long rl rs rh cl cg cm c r.cells r.annot (cells_length IsRangeOf ks r.cells v.cells) in
        let grown = grow_is (total_columns t aggs) row (row ++ terms r) (adds reading row (total_columns t aggs) (terms r) (columns_mean aggs ok r v)) in
        let picks = run_picks (λ (x : Value). x) row (terms r) n row_long in
        ap (kept (run n w)) grown
        ∙ ap (λ m. kept (run n m) (row ++ terms r)) (sym (columns_long aggs r))
        ∙ ap (λ q. kept (run n (length (terms r))) (row ++ q)) (sym (same_map (terms r)))
        ∙ kept_are (row ++ map (λ x. x) (terms r)) (run n (length (terms r))) (map (λ x. x) (terms r)) picks
        ∙ same_map (terms r)

    abbrev pub zeros : List Value
    zeros = replicate w (value.Int (pos 0))

    -- the sum of a column over the terms of all rows, and a row of zeros
    one_sum : (i : ℕ) (f : RangeRow → ℤ) (rows : Bounded) → IsRelation ks rows → ((r : RangeRow) → IsRangeRow ks r → At (terms r) i (value.Int (f r))) → plain_aggregate (zeros ∷ map terms rows) (Sum i) ≡ value.Int (int_sum (map f rows))
    one_sum i f rows v at =
        (λ k. value.Int (number (zero_at w i k) +ℤ int_sum (map (λ row. number (value_at row i)) (map terms rows))))
        ∙ ap value.Int (+ℤ_idl (int_sum (map (λ row. number (value_at row i)) (map terms rows)))
        ∙ ap int_sum (map-map terms (λ row. number (value_at row i)) rows
        ∙ map_valid (IsRangeRow ks) (λ r. number (value_at (terms r) i)) f rows v (λ r p. ap (λ o. number (unwrap_or o (value.Int (pos 0)))) (at r p))))

    one_range : (a : Agg) → is_sum a ≡ true → (rows : Bounded) → range (value.Int (int_sum (map (lower_term (all_rows []) (agg_place a)) rows))) (value.Int (int_sum (map (guess_term (agg_place a)) rows))) (value.Int (int_sum (map (upper_term (all_rows []) (agg_place a)) rows))) ≡ aggregate (all_rows rows) a
    one_range (agg.Sum d) h rows = refl
    one_range (agg.Min d) h rows = cc
    one_range (agg.Max d) h rows = cc

    all_sums : (i : ℕ) (bs : List Agg) → AllByRecursion (IsSumOf c) bs → (rows : Bounded) → IsRelation ks rows → ((r : RangeRow) → IsRangeRow ks r → EndsOfAll (low r) (mid r) (high r) (terms r) i bs) → map (plain_aggregate (zeros ∷ map terms rows)) (total_sums i bs) ≡ encode_cells (map (aggregate (all_rows rows)) bs)
    all_sums i [] q rows v at = refl
    all_sums i (b ∷ bs) q rows v at =
        let l = one_sum i (lower_term (all_rows []) (agg_place b)) rows v (λ r p. (at r p).0.lo) in
        let g = one_sum (i + 1) (guess_term (agg_place b)) rows v (λ r p. (at r p).0.sg) in
        let u = one_sum (i + 2) (upper_term (all_rows []) (agg_place b)) rows v (λ r p. (at r p).0.hi) in
        let whole = one_range b q.0.0 rows in
        (λ k. l k ∷ g k ∷ u k ∷ all_sums (i + 3) bs q.1 rows v (λ r p. (at r p).1) k)
        ∙ (λ k. (whole k).lo ∷ (whole k).sg ∷ (whole k).hi ∷ encode_cells (map (aggregate (all_rows rows)) bs))

    -- the rows that are summed
    pub term_rows : (ts : List Rows) (p : PlanTree) (rows : Bounded) → IsRelation ks rows → GivesEncoded ts p rows → plain_rows (Keep (run n w) (extend_all (total_columns t aggs) p)) ts ≡ map terms rows
    term_rows ts p rows v g =
        let columns = total_columns t aggs in
        ap (map (kept (run n w))) (rows-extend_all columns p ts ∙ ap (map (grow columns)) g ∙ map-map encode_row (grow columns) rows)
        ∙ map-map (λ r. grow columns (encode_row r)) (kept (run n w)) rows
        ∙ map_valid (IsRangeRow ks) (λ r. kept (run n w) (grow columns (encode_row r))) terms rows v each_row

    -- their columns by their places
    pub terms_there : (r : RangeRow) → EndsOfAll (low r) (mid r) (high r) (terms r) 0 aggs
    terms_there r = subst (λ row. EndsOfAll (low r) (mid r) (high r) row 0 aggs) (append-nil (terms r)) (all_ends_at (low r) (mid r) (high r) [] [] 0 aggs refl)

    -- The plan of the sums gives the row of the bounded operator.
    pub sums_give : (ts : List Rows) (p : PlanTree) (rows : Bounded) → IsRelation ks rows → GivesEncoded ts p rows → GivesEncoded ts (sums c aggs p) (bounded.total aggs rows)
    sums_give ts p rows v g =
        let columns = total_columns t aggs in
        let inner = term_rows ts p rows v g in
        let grouped = Group [] (total_sums 0 aggs) (Union (plan.Rows w (zeros ∷ [])) (Keep (run n w) (extend_all columns p))) in
        let cells = encode_cells (map (aggregate (all_rows rows)) aggs) in
        let all = zeros ∷ map terms rows in
        let the_row : plain_rows grouped ts ≡ cells ∷ [] =
        (λ i. plain_group [] (total_sums 0 aggs) (zeros ∷ inner i))
        ∙ (λ i. map (λ key. key ++ map (plain_aggregate (filter (λ row. same_row key []) all)) (total_sums 0 aggs)) (no_key (map terms rows) i))
        ∙ (λ i. map (plain_aggregate (filter_all all i)) (total_sums 0 aggs) ∷ [])
        ∙ (λ i. all_sums 0 aggs ok rows v (λ r q. terms_there r) i ∷ []) in
        rows-extend_all (three one_term one_term one_term) grouped ts
        ∙ ap (map (grow (three one_term one_term one_term))) the_row
        ∙ ap (λ row. row ∷ []) (grow_is (three one_term one_term one_term) cells (encode_row (entry (map (aggregate (all_rows rows)) aggs) one))
        (adds reading cells (three one_term one_term one_term) (value.Int (pos 1) ∷ value.Int (pos 1) ∷ value.Int (pos 1) ∷ []) ((λ more. refl), ((λ more. refl), ((λ more. refl), tt)))))

-- Total's plan gives the row of the bounded operator.
pub total_gives : (ks : List Kind) (aggs : List Agg) → AllByRecursion (IsSumOf (length ks)) aggs → (ts : List Rows) (p : PlanTree) (rows : Bounded) → IsRelation ks rows → GivesEncoded ts p rows → GivesEncoded ts (total_plan (length ks) aggs p) (bounded.total aggs rows)
total_gives ks [] ok ts p rows v g = refl
total_gives ks (a ∷ aggs) ok ts p rows v g = sums_give ks (a ∷ aggs) ok ts p rows v g
