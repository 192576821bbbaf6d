-- The numbers of the folds' plan fit where those of the aggregates do: each of its sums is within one of the sums of the
-- group to which the rows belong.
use Rattle.std.specs.Prelude.{◌≡◌, ◌≤◌, ◌≤ℤ◌, ℕ, ◌+◌, ◌*◌, Bool, true, List, [], ◌∷◌, ◌++◌, length, map, flat_map, sum_by, ℤ, pos, nat_abs}
use Rattle.std.specs.List.{AllByRecursion, AllZip}
use Rattle.std.proofs.Common.{arith, refl, sym, ◌∙◌, ap, subst}
use Rattle.au_value.specs.declared.kinds.Kind.TheVariants as kind
use Rattle.au_value.specs.declared.value.Value.{Value}
use Rattle.au_value.specs.declared.value.Value.TheVariants as value
use Rattle.au_value.specs.Ranges.{guesses}
use Rattle.au_value.proofs.OrderLaws.{at_most_trans}
use Rattle.au_expr.specs.Figures.{Fit}
use Rattle.au_expr.specs.Ordinary.{number}
use Rattle.au_expr.proofs.Fits.{fit_both, fit_parts}
use Rattle.au_expr.proofs.Within.{numbers_in_order}
use Rattle.au_algebra.specs.declared.query.Agg.{Agg}
use Rattle.au_algebra.specs.declared.query.Agg.TheVariants as agg
use Rattle.au_algebra.specs.Bounded.{RangeRow, Bounded, Grouped, lower_term, upper_term, guess_term, range_at, guessed_keys}
use Rattle.au_algebra.specs.Fits.{agg_numbers}
use Rattle.au_algebra.specs.Laws.{IsRangeRow, IsRelation}
use Rattle.au_algebra.specs.Lists.{same_row, value_at}
use Rattle.au_algebra.specs.Ordinary.{Rows}
use Rattle.au_algebra.proofs.Copies.{same_row_refl}
use Rattle.au_algebra.proofs.Each.{all_filter, all_from}
use Rattle.au_algebra.proofs.Filters.{filter_all}
use Rattle.au_algebra.proofs.SumRanges.{column_kind}
use Rattle.au_plain.specs.Meaning.{plain_rows}
use Rattle.au_plain.specs.PlanNumbers.{plan_numbers, magnitudes}
use Rattle.au_plain.specs.PlanNumbers as plain
use Rattle.au_plain.specs.Plans.{PlanTree, extend_all}
use Rattle.au_plain.specs.PTerms.{PTerm, Multiply}
use Rattle.au_plain.specs.PlanKinds.{FitRows}
use Rattle.au_plain.proofs.Held.{ValueFits, RowFits}
use Rattle.au_encode.specs.Encode.{encode_row}
use Rattle.au_rwexpr.specs.Adding.{grow_numbers}
use Rattle.au_rwexpr.specs.Counts.{zero_term, positive}
use Rattle.au_rwexpr.specs.Flatten.{lo, sg, hi}
use Rattle.au_rwexpr.proofs.Allowed.{all_both, lower_fits}
use Rattle.au_rwexpr.proofs.Careful.{careful_grow}
use Rattle.au_rwexpr.proofs.Gives.{GivesEncoded}
use Rattle.au_rwexpr.proofs.Places.{At}
use Rattle.au_rwexpr.proofs.PlanNumbersOf.{all_made, fit_all, numbers-extend_all}
use Rattle.au_rwgroup.specs.declared.folding.Folding.{Folding}
use Rattle.au_rwgroup.specs.declared.folding.Folding.TheVariants as folding
use Rattle.au_rwgroup.specs.Folds.{fold_aggs, fold_columns, fold_places, all_fold_terms, folds, times_above, times_below}
use Rattle.au_rwgroup.specs.GroupPlan.{kept_for}
use Rattle.au_rwgroup.proofs.AggregatesOn.{OnColumn, are_on}
use Rattle.au_rwgroup.proofs.ColumnsThere.{IsOn}
use Rattle.au_rwgroup.proofs.FitTerms.{Safe, reads_safe, weighs_safe, safe_columns}
use Rattle.au_rwgroup.proofs.FoldRows as folds_of
use Rattle.au_rwgroup.proofs.FoldRows.{low_term, high_term, sure_low_term, sure_high_term, term_values, all_term_values, FivesAt}
use Rattle.au_rwgroup.proofs.FoldTerms.{low_within, high_within, sure_low_within, sure_high_within}
use Rattle.au_rwgroup.proofs.KeyReading.{KeyReading, grouped_in}
use Rattle.au_rwgroup.proofs.MemberNumbers as numbers
use Rattle.au_rwgroup.proofs.Partition.{every_key, made_from, from_shares}
use Rattle.au_rwgroup.proofs.SecondRows as second
use Rattle.au_rwgroup.proofs.Sharing.{Sharing, sharing}
use Rattle.au_rwgroup.proofs.Sizes.{sum_made, zeros, sizes_of, number_fits, each_within, sum_narrowed}

-- what a row adds to sums fits
abbrev OneFits : ℕ → RangeRow → Type 0
OneFits d r = ValueFits (value.Int (low_term d r)) × (ValueFits (value.Int (guess_term d r)) × (ValueFits (value.Int (high_term d r)) × (ValueFits (value.Int (sure_low_term d r)) × ValueFits (value.Int (sure_high_term d r)))))

abbrev TermsFit : List Agg → RangeRow → Type 0
TermsFit [] r = Unit {0}
TermsFit (agg.Sum d ∷ bs) r = OneFits d r × TermsFit bs r
TermsFit (agg.Min d ∷ bs) r = TermsFit bs r
TermsFit (agg.Max d ∷ bs) r = TermsFit bs r

nothing_fits : (xs : Bounded) → AllByRecursion (TermsFit []) xs
nothing_fits [] = tt
nothing_fits (x ∷ xs) = (tt, nothing_fits xs)

module _ (by : KeyReading) (aggs : List Agg) (on : AllByRecursion (OnColumn by.ks) aggs) (rows : Bounded) (ok : IsRelation by.ks rows) where
  abbrev c : ℕ
  c = length by.ks

  abbrev t : ℕ
  t = 3 * c

  abbrev n : ℕ
  n = 3 * c + 5

  abbrev are_there : AllByRecursion (IsOn c) aggs
  are_there = are_on by.ks aggs on

  abbrev guess : RangeRow → List Value
  guess r = guesses (by.keys r.cells)

  abbrev IsFold : List Value → Type 0
  IsFold fold = folds_of.Occurs by rows ok fold

  abbrev rows_of : List Value → Bounded
  rows_of fold = folds_of.rows_of by rows ok fold

  abbrev fold_keys : Rows
  fold_keys = folds_of.fold_keys by rows ok

  abbrev wide : RangeRow → List Value
  wide r = folds_of.wide by aggs r

  abbrev shared : Sharing by rows
  shared = sharing by rows ok folding.EqualKeys

  abbrev group_at : List Value → Grouped
  group_at key = grouped_in by rows key

  abbrev IsKey : List Value → Type 0
  IsKey key = second.IsKey by (flat_map kept_for aggs) aggs rows ok key

  abbrev overlaps : List Value → RangeRow → Bool
  overlaps key r = second.overlaps by (flat_map kept_for aggs) aggs rows ok key r

  abbrev SumsFit : List Value → ℕ → Type 0
  SumsFit key d = numbers.SumsFit by aggs are_there rows ok shared key d

  -- an end of a range of numbers is at most the other
  ends_in_order : (r : RangeRow) → IsRangeRow by.ks r → (d : ℕ) → At by.ks d kind.Int → number (range_at d r).lo ≤ℤ number (range_at d r).hi
  ends_in_order r v d h =
      let x = range_at d r in
      let k = column_kind kind.Int d by.ks r v h in
      numbers_in_order x.lo x.hi (k.range.lo_kind ∙ k.kind) (k.range.hi_kind ∙ k.kind) (at_most_trans x.lo x.sg x.hi k.range.lo_sg k.range.sg_hi)

  least_most : (r : RangeRow) → IsRangeRow by.ks r → r.annot.least ≤ r.annot.most
  least_most r v = omega (arith, v.triple.least_guess, v.triple.guess_most)

  -- the group to which the rows of a fold belong
  abbrev own_key : List Value → List Value
  own_key fold = guesses (folds_of.spans by fold)

  module _ (fold : List Value) (some : IsKey (own_key fold)) where
    abbrev g : Grouped
    g = group_at (own_key fold)

    belongs : (r : RangeRow) → IsRangeRow by.ks r → same_row fold (folds_of.fold_key by r) ≡ true → same_row (own_key fold) (guess r) ≡ true
    belongs r v e = ap (λ xs. same_row (guesses xs) (guess r)) (folds_of.same_as by fold r v e).ranges ∙ same_row_refl (guess r)

    is_member : (r : RangeRow) → IsRangeRow by.ks r → same_row fold (folds_of.fold_key by r) ≡ true → overlaps (own_key fold) r ≡ true
    is_member r v e = second.belongs_overlaps by (flat_map kept_for aggs) aggs rows ok (own_key fold) some r v (belongs r v e)

    -- the sum of a term over the fold fits where one of greater terms over the members does
    member_fits : (f h : RangeRow → ℤ) → ((r : RangeRow) → IsRangeRow by.ks r → nat_abs (f r) ≤ nat_abs (h r)) → Fit (pos (sum_by nat_abs (map h g.members)) ∷ []) → Fit (pos (sum_by nat_abs (map f (rows_of fold))) ∷ [])
    member_fits f h within fits =
        let narrow = sum_narrowed (IsRangeRow by.ks) (λ r. same_row fold (folds_of.fold_key by r)) (overlaps (own_key fold)) (λ r. nat_abs (f r)) (λ r. nat_abs (h r)) rows ok is_member (λ r v e. within r v) in
        let fs = sizes_of f (rows_of fold) in
        let hs = sizes_of h g.members in
        lower_fits (sum_by nat_abs (map f (rows_of fold))) (sum_by nat_abs (map h g.members)) (omega (arith, narrow, fs, hs)) fits

    guess_fits : (d : ℕ) → Fit (pos (sum_by nat_abs (map (guess_term d) g.belonging)) ∷ []) → Fit (pos (sum_by nat_abs (map (guess_term d) (rows_of fold))) ∷ [])
    guess_fits d fits =
        let narrow = sum_narrowed (IsRangeRow by.ks) (λ r. same_row fold (folds_of.fold_key by r)) (λ r. same_row (own_key fold) (guess r)) (λ r. nat_abs (guess_term d r)) (λ r. nat_abs (guess_term d r)) rows ok belongs (λ r v e. omega arith) in
        let fs = sizes_of (guess_term d) (rows_of fold) in
        let hs = sizes_of (guess_term d) g.belonging in
        lower_fits (sum_by nat_abs (map (guess_term d) (rows_of fold))) (sum_by nat_abs (map (guess_term d) g.belonging)) (omega (arith, narrow, fs, hs)) fits

    -- the five sums of an aggregate fit
    pub record FiveFit (d : ℕ) : Type 0 where
      pub low : Fit (pos (sum_by nat_abs (map (low_term d) (rows_of fold))) ∷ [])
      pub guess : Fit (pos (sum_by nat_abs (map (guess_term d) (rows_of fold))) ∷ [])
      pub high : Fit (pos (sum_by nat_abs (map (high_term d) (rows_of fold))) ∷ [])
      pub sure_low : Fit (pos (sum_by nat_abs (map (sure_low_term d) (rows_of fold))) ∷ [])
      pub sure_high : Fit (pos (sum_by nat_abs (map (sure_high_term d) (rows_of fold))) ∷ [])

    five_fit : (d : ℕ) → At by.ks d kind.Int → SumsFit (own_key fold) d → FiveFit d
    five_fit d h sums = record {
      low = member_fits (low_term d) (lower_term g d) (λ r v. low_within g d r) sums.lower;
      guess = guess_fits d sums.guess;
      high = member_fits (high_term d) (upper_term g d) (λ r v. high_within g d r) sums.upper;
      sure_low = member_fits (sure_low_term d) (upper_term g d) (λ r v. sure_low_within g d r (least_most r v) (ends_in_order r v d h)) sums.upper;
      sure_high = member_fits (sure_high_term d) (lower_term g d) (λ r v. sure_high_within g d r (least_most r v) (ends_in_order r v d h)) sums.lower;
    }

    -- the magnitudes of the sums over the fold
    size : (i : ℕ) (f : RangeRow → ℤ) → ((r : RangeRow) → IsRangeRow by.ks r → At (wide r) i (value.Int (f r))) → Fit (pos (sum_by nat_abs (map f (rows_of fold))) ∷ []) → Fit (pos (sum_by (λ row. nat_abs (number (value_at row i))) (map wide (rows_of fold))) ∷ [])
    size i f at fits =
        subst (λ m. Fit (pos m ∷ [])) (sym (sum_made (IsRangeRow by.ks) wide i f (rows_of fold) (folds_of.rows_ok by rows ok fold) at)) fits

    abbrev own_rows : Rows
    own_rows = map wide (rows_of fold)

    no_size : (i : ℕ) → ((r : RangeRow) → IsRangeRow by.ks r → At (wide r) i (value.Int (pos 0))) → Fit (pos (sum_by (λ row. nat_abs (number (value_at row i))) own_rows) ∷ [])
    no_size i at = size i (λ r. pos 0) at (subst (λ m. Fit (pos m ∷ [])) (sym (zeros (rows_of fold))) refl)

    pub sizes_fit : (m : ℕ) (bs : List Agg) → AllByRecursion (OnColumn by.ks) bs → ((r : RangeRow) → IsRangeRow by.ks r → FivesAt (wide r) m (map (λ a. term_values a r) bs)) → Fit (flat_map (agg_numbers g) bs) → Fit (flat_map (magnitudes own_rows) (fold_aggs m bs))
    sizes_fit m [] h at f = refl
    sizes_fit m (agg.Sum d ∷ bs) h at f =
        let p = fit_parts (agg_numbers g (agg.Sum d)) (flat_map (agg_numbers g) bs) f in
        let five = five_fit d h.0 (numbers.sums_of by aggs are_there rows ok shared (own_key fold) d p.0) in
        let each = λ (i : ℕ). sum_by (λ row. nat_abs (number (value_at row i))) own_rows in
        let rest = flat_map (magnitudes own_rows) (fold_aggs (m + 5) bs) in
        fit_both (pos (each m) ∷ []) (pos (each (m + 1)) ∷ pos (each (m + 2)) ∷ pos (each (m + 3)) ∷ pos (each (m + 4)) ∷ rest) (size m (low_term d) (λ r v. (at r v).0.0) five.low)
        (fit_both (pos (each (m + 1)) ∷ []) (pos (each (m + 2)) ∷ pos (each (m + 3)) ∷ pos (each (m + 4)) ∷ rest) (size (m + 1) (guess_term d) (λ r v. (at r v).0.1) five.guess)
        (fit_both (pos (each (m + 2)) ∷ []) (pos (each (m + 3)) ∷ pos (each (m + 4)) ∷ rest) (size (m + 2) (high_term d) (λ r v. (at r v).0.2) five.high)
        (fit_both (pos (each (m + 3)) ∷ []) (pos (each (m + 4)) ∷ rest) (size (m + 3) (sure_low_term d) (λ r v. (at r v).0.3) five.sure_low)
        (fit_both (pos (each (m + 4)) ∷ []) rest (size (m + 4) (sure_high_term d) (λ r v. (at r v).0.4) five.sure_high)
        (sizes_fit (m + 5) bs h.1 (λ r v. (at r v).1) p.1)))))
    sizes_fit m (agg.Min d ∷ bs) h at f =
        fit_both (pos (sum_by (λ row. nat_abs (number (value_at row (m + 4)))) own_rows) ∷ []) (flat_map (magnitudes own_rows) (fold_aggs (m + 5) bs)) (no_size (m + 4) (λ r v. (at r v).0.4))
        (sizes_fit (m + 5) bs h.1 (λ r v. (at r v).1) f)
    sizes_fit m (agg.Max d ∷ bs) h at f =
        fit_both (pos (sum_by (λ row. nat_abs (number (value_at row (m + 4)))) own_rows) ∷ []) (flat_map (magnitudes own_rows) (fold_aggs (m + 5) bs)) (no_size (m + 4) (λ r v. (at r v).0.4))
        (sizes_fit (m + 5) bs h.1 (λ r v. (at r v).1) f)

    -- so each term of a row fits
    row_fits : (f : RangeRow → ℤ) → Fit (pos (sum_by nat_abs (map f (rows_of fold))) ∷ []) → AllByRecursion (λ r. ValueFits (value.Int (f r))) (rows_of fold)
    row_fits f fits =
        let m = sum_by nat_abs (map f (rows_of fold)) in
        all_from (λ r. nat_abs (f r) ≤ m) (λ r. ValueFits (value.Int (f r))) (rows_of fold) (λ r h. number_fits (f r) m h fits)
        (each_within (λ r. nat_abs (f r)) m (rows_of fold) (omega (arith, sizes_of f (rows_of fold))))

    pub terms_fit : (bs : List Agg) → AllByRecursion (OnColumn by.ks) bs → Fit (flat_map (agg_numbers g) bs) → AllByRecursion (TermsFit bs) (rows_of fold)
    terms_fit [] h f = nothing_fits (rows_of fold)
    terms_fit (agg.Sum d ∷ bs) h f =
        let p = fit_parts (agg_numbers g (agg.Sum d)) (flat_map (agg_numbers g) bs) f in
        let five = five_fit d h.0 (numbers.sums_of by aggs are_there rows ok shared (own_key fold) d p.0) in
        let Low = λ (r : RangeRow). ValueFits (value.Int (low_term d r)) in
        let Guess = λ (r : RangeRow). ValueFits (value.Int (guess_term d r)) in
        let High = λ (r : RangeRow). ValueFits (value.Int (high_term d r)) in
        let SureLow = λ (r : RangeRow). ValueFits (value.Int (sure_low_term d r)) in
        let SureHigh = λ (r : RangeRow). ValueFits (value.Int (sure_high_term d r)) in
        all_both (OneFits d) (TermsFit bs) (rows_of fold)
        (all_both Low (λ r. Guess r × (High r × (SureLow r × SureHigh r))) (rows_of fold) (row_fits (low_term d) five.low)
        (all_both Guess (λ r. High r × (SureLow r × SureHigh r)) (rows_of fold) (row_fits (guess_term d) five.guess)
        (all_both High (λ r. SureLow r × SureHigh r) (rows_of fold) (row_fits (high_term d) five.high)
        (all_both SureLow SureHigh (rows_of fold) (row_fits (sure_low_term d) five.sure_low) (row_fits (sure_high_term d) five.sure_high)))))
        (terms_fit bs h.1 p.1)
    terms_fit (agg.Min d ∷ bs) h f = terms_fit bs h.1 f
    terms_fit (agg.Max d ∷ bs) h f = terms_fit bs h.1 f

  terms_safe : (r : RangeRow) (bs : List Agg) → TermsFit bs r → AllZip Safe (all_fold_terms t bs) (all_term_values bs r)
  terms_safe r [] f = tt
  terms_safe r (agg.Sum d ∷ bs) f = (
    weighs_safe (times_below (hi t) (lo (3 * d))) _ ((tt, refl), ((tt, tt), refl)) f.0.0,
    (
      weighs_safe (Multiply (sg t) (sg (3 * d))) _ (tt, tt) f.0.1.0,
      (
        weighs_safe (times_above (hi t) (hi (3 * d))) _ ((tt, refl), (refl, (tt, tt))) f.0.1.1.0,
        (
          weighs_safe (times_above (lo t) (lo (3 * d))) _ ((tt, refl), (refl, (tt, tt))) f.0.1.1.1.0,
          (weighs_safe (times_below (lo t) (hi (3 * d))) _ ((tt, refl), ((tt, tt), refl)) f.0.1.1.1.1, terms_safe r bs f.1),
        ),
      ),
    ),
  )
  terms_safe r (agg.Min d ∷ bs) f =
      let i = 3 * d in
      (reads_safe (lo i) _ tt, (reads_safe (sg i) _ tt, (reads_safe (hi i) _ tt, (reads_safe (hi i) _ tt, (reads_safe zero_term _ refl, terms_safe r bs f)))))
  terms_safe r (agg.Max d ∷ bs) f =
      let i = 3 * d in
      (reads_safe (hi i) _ tt, (reads_safe (sg i) _ tt, (reads_safe (lo i) _ tt, (reads_safe (lo i) _ tt, (reads_safe zero_term _ refl, terms_safe r bs f)))))

  columns_fit : (r : RangeRow) → IsRangeRow by.ks r → RowFits (encode_row r) → TermsFit aggs r → Fit (grow_numbers (fold_columns t aggs) (encode_row r))
  columns_fit r v f terms =
      let row = encode_row r in
      let columns = fold_columns t aggs in
      let new = folds_of.added by aggs r in
      let added = safe_columns row columns new (folds_of.columns_mean by aggs are_there r v)
      (reads_safe (positive (lo t)) _ (refl, tt), (reads_safe (positive (sg t)) _ (refl, tt), terms_safe r aggs terms)) f in
      (careful_grow columns row (row ++ new) added.0).1

  module _ (ts : List Rows) (p : PlanTree) (gives : GivesEncoded ts p rows) (fits : FitRows (plain_rows p ts)) (np : Fit (plan_numbers p ts)) (sums : AllByRecursion (λ key. Fit (flat_map (agg_numbers (group_at key)) aggs)) (guessed_keys by.keys rows)) where
    abbrev Sums : List Value → Type 0
    Sums key = Fit (flat_map (agg_numbers (group_at key)) aggs)

    -- the group of a fold's rows, whose sums fit
    abbrev Grown : List Value → Type 0
    Grown fold = IsKey (own_key fold) × Sums (own_key fold)

    each_grown : AllByRecursion Grown fold_keys
    each_grown =
        let Own = λ (r : RangeRow). IsKey (guess r) × Sums (guess r) in
        let own : AllByRecursion Own rows =
        made_from (λ key. IsKey key × Sums key) guess rows
        (every_key (λ key. IsKey key × Sums key) (map guess rows) (all_both IsKey Sums (guessed_keys by.keys rows) (second.all_keys by (flat_map kept_for aggs) aggs rows ok) sums)) in
        all_from IsFold Grown fold_keys
        (λ fold some.
        (let first = subst (λ rs. AllByRecursion Own rs) some.is (all_filter Own (λ r. same_row fold (folds_of.fold_key by r)) rows own) in
        subst (λ key. IsKey key × Sums key) (ap guesses (sym (folds_of.first_same by rows ok fold some).ranges)) first.0))
        (folds_of.all_occurring by rows ok)

    each_terms : AllByRecursion (TermsFit aggs) rows
    each_terms =
        subst (λ rs. AllByRecursion (TermsFit aggs) rs) (filter_all rows)
        (from_shares (folds_of.fold_key by) rows (λ fold. true) (TermsFit aggs)
        (subst (λ fs. AllByRecursion (λ fold. AllByRecursion (TermsFit aggs) (rows_of fold)) fs) (sym (filter_all fold_keys))
        (all_from Grown (λ fold. AllByRecursion (TermsFit aggs) (rows_of fold)) fold_keys (λ fold q. terms_fit fold q.0 aggs on q.1) each_grown)))

    abbrev columns : List PTerm
    columns = fold_columns t aggs

    -- the columns that are added to rows
    wider : Fit (plan_numbers (extend_all columns p) ts)
    wider =
        let held : AllByRecursion (λ r. RowFits (encode_row r)) rows = made_from RowFits encode_row rows (subst FitRows gives fits) in
        let Sound = λ (r : RangeRow). IsRangeRow by.ks r × (RowFits (encode_row r) × TermsFit aggs r) in
        numbers-extend_all ts columns p np
        (subst (λ rs. AllByRecursion (λ row. Fit (grow_numbers columns row)) rs) (sym gives)
        (all_made Sound (λ row. Fit (grow_numbers columns row)) encode_row rows
        (all_both (IsRangeRow by.ks) (λ r. RowFits (encode_row r) × TermsFit aggs r) rows ok (all_both (λ r. RowFits (encode_row r)) (TermsFit aggs) rows held each_terms))
        (λ r q. columns_fit r q.0 q.1.0 q.1.1)))

    -- The folds' plan adds no number that does not fit.
    pub folds_fit : (how : Folding) → Fit (plan_numbers (folds how c by.k aggs p) ts)
    folds_fit folding.EqualKeys =
        let over = fold_aggs n aggs in
        let sizes = λ (fold : List Value). flat_map (magnitudes (map wide (rows_of fold))) over in
        fit_both (plan_numbers (extend_all columns p) ts) (plain.group_numbers (fold_places c by.k) over (plain_rows (extend_all columns p) ts)) wider
        (subst (λ rs. Fit (plain.group_numbers (fold_places c by.k) over rs)) (sym (folds_of.wide_rows by aggs rows ok are_there ts p gives))
        (subst (λ ns. Fit ns) (sym (folds_of.fold_numbers by aggs rows ok are_there))
        (fit_all sizes fold_keys
        (all_from Grown (λ fold. Fit (sizes fold)) fold_keys (λ fold q. sizes_fit fold q.0 n aggs on (λ r v. folds_of.wide_at by aggs r v) q.1) each_grown))))
    folds_fit folding.Rows = wider
