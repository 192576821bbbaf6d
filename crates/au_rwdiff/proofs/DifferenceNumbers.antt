-- The numbers of Difference's plan lie in the range where those of the bounded operator do.
use Rattle.std.specs.Prelude.{◌≡◌, ◌≤◌, ℕ, ◌+◌, ◌*◌, List, [], ◌∷◌, ◌++◌, length, map, flat_map, sum_by, pos, nat_abs, ◌-ℤ◌}
use Rattle.std.specs.List.{AllByRecursion}
use Rattle.std.proofs.Common.{arith, refl, sym, ◌∙◌, ap, subst}
use Rattle.std.proofs.lemmas.List.Sums.{sum_by-cons}
use Rattle.au_value.specs.declared.kinds.Kind.{Kind}
use Rattle.au_value.specs.declared.value.Value.{Value}
use Rattle.au_value.specs.declared.value.Value.TheVariants as value
use Rattle.au_annot.specs.Triples.{Counts}
use Rattle.au_expr.specs.Figures.{Fit}
use Rattle.au_expr.specs.Ordinary as on_values
use Rattle.au_expr.specs.Ordinary.{number}
use Rattle.au_expr.proofs.Fits.{fit_both, fit_parts}
use Rattle.au_algebra.specs.Bounded.{RangeRow, Bounded, less}
use Rattle.au_algebra.specs.Fits.{difference_sums}
use Rattle.au_algebra.specs.Laws.{IsRangeRow, IsRelation}
use Rattle.au_algebra.specs.Lists.{value_at}
use Rattle.au_algebra.specs.Ordinary.{Rows}
use Rattle.au_algebra.proofs.Each.{all_append, all_filter}
use Rattle.au_plain.specs.declared.expr.Comparison2.TheVariants.{Less}
use Rattle.au_plain.specs.PTerms.{PTerm, Column, Subtract, greatest_of_two}
use Rattle.au_plain.specs.Plans.{PlanTree, Join, Union, extend_all}
use Rattle.au_plain.specs.Meaning.{plain_rows}
use Rattle.au_plain.specs.PlanNumbers.{plan_numbers, term_numbers, magnitudes, group_numbers}
use Rattle.au_encode.specs.Encode.{encode, encode_row, encode_counts}
use Rattle.au_encode.proofs.HeldCells.{FitRow, AllFitRows}
use Rattle.au_rwexpr.specs.Adding.{grow_numbers}
use Rattle.au_rwexpr.specs.Cells.{run}
use Rattle.au_rwexpr.specs.Counts.{zero_term, positive}
use Rattle.au_rwexpr.specs.Flatten.{lo, sg, hi}
use Rattle.au_rwexpr.specs.Meets.{meets_term, same_guesses, surely_equal}
use Rattle.au_rwexpr.proofs.Allowed.{fits_now, all_of, all_both, lower_fits}
use Rattle.au_rwexpr.proofs.Careful.{careful, Fits, all_careful, careful_grow, case_fits, column_fits, subtract_fits, greatest_fits, compare_fits}
use Rattle.au_rwexpr.proofs.Coded.{cl, cg, cm}
use Rattle.au_rwexpr.proofs.Columns.{adds}
use Rattle.au_rwexpr.proofs.Gives.{GivesEncoded, map-map}
use Rattle.au_rwexpr.proofs.MeetingNumbers.{meets_fits, same_fits, surely_fits}
use Rattle.au_rwexpr.proofs.OnValues.{Has, column_has}
use Rattle.au_rwexpr.proofs.Places.{At}
use Rattle.au_rwexpr.proofs.PlanNumbersOf.{fit_all, all_fit, all_made, numbers-extend_all, numbers-filter}
use Rattle.au_combine.proofs.CombineNumbers.{sum_magnitudes}
use Rattle.au_combine.proofs.JoinGroups.{Apart, pairs, with_left, flat_map_valid}
use Rattle.au_combine.proofs.JoinRows.{all_joined}
use Rattle.au_rwdiff.specs.Differences.{no_columns, taken_columns, left_columns, taken_plan, summed_plan, difference_plan}
use Rattle.au_rwdiff.proofs.DifferenceRows as g
use Rattle.au_rwdiff.proofs.FirstGroups.{ledger_numbers}
use Rattle.au_rwdiff.proofs.JoinedRows as j
use Rattle.au_rwdiff.proofs.Minus.{minus_fits}

all_units : (ms : List Counts) → AllByRecursion (λ m. Unit {0}) ms
all_units [] = tt
all_units (m ∷ ms) = (tt, all_units ms)

zero_fits : (row : List Value) → Fits row zero_term
zero_fits row more = refl

-- a count less another, and 0 where that is more
abbrev less_by : ℕ → ℕ → PTerm
less_by place sum = greatest_of_two (Subtract (Column place) (Column sum)) zero_term

less_fits : (row : List Value) (place sum m k : ℕ) → At row place (value.Int (pos m)) → At row sum (value.Int (pos k)) → Fit (pos m ∷ []) → Fit (pos k ∷ []) → Fits row (less_by place sum)
less_fits row place sum m k x y f h =
    let a = column_has row place (value.Int (pos m)) x in
    let b = column_has row sum (value.Int (pos k)) y in
    let both : Has row (Subtract (Column place) (Column sum)) (value.Int (pos m -ℤ pos k)) = λ more i. on_values.subtract (a more i) (b more i) in
    let minus = minus_fits m k f h in
    greatest_fits row (Subtract (Column place) (Column sum)) zero_term (value.Int (pos m -ℤ pos k)) (value.Int (pos 0)) both (λ more. refl)
    (subtract_fits row (Column place) (Column sum) (value.Int (pos m)) (value.Int (pos k)) a b (column_fits row place (value.Int (pos m)) a f) (column_fits row sum (value.Int (pos k)) b h) minus)
    (zero_fits row) minus refl

-- the three counts of a triple that fits
parts_of : (a b d : ℕ) → Fit (pos a ∷ pos b ∷ pos d ∷ []) → Fit (pos a ∷ []) × Fit (pos b ∷ []) × Fit (pos d ∷ [])
parts_of a b d f =
    let p = fit_parts (pos a ∷ []) (pos b ∷ pos d ∷ []) f in
    let q = fit_parts (pos b ∷ []) (pos d ∷ []) p.1 in
    (p.0, q.0, q.1)

module _ (ks : List Kind) (left right : Bounded) (left_ok : IsRelation ks left) (right_ok : IsRelation ks right) (apart : Apart encode_row left) where
  abbrev c : ℕ
  c = length ks

  abbrev t : ℕ
  t = 3 * c

  abbrev w : ℕ
  w = 3 * c + 3

  abbrev u : ℕ
  u = w + 3 * c

  abbrev none : Counts
  none = g.none ks left right left_ok right_ok apart

  abbrev shares : RangeRow → List Counts
  shares = g.shares ks left right left_ok right_ok apart

  abbrev partners : RangeRow → Bounded
  partners = g.partners ks left right left_ok right_ok apart

  abbrev with_counts : RangeRow × Counts → List Value
  with_counts = g.with_counts ks left right left_ok right_ok apart

  abbrev gone : RangeRow → Counts
  gone = g.gone ks left right left_ok right_ok apart

  abbrev with_gone : RangeRow → List Value
  with_gone = g.with_gone ks left right left_ok right_ok apart

  abbrev whole : RangeRow → List Value
  whole = g.whole ks left right left_ok right_ok apart

  -- the magnitudes of a column over the entries of a left row
  one_magnitude : (r : RangeRow) (i : ℕ) (part : Counts → ℕ) → ((m : Counts) → At (with_counts (r, m)) i (value.Int (pos (part m)))) → sum_by (λ row. nat_abs (number (value_at row i))) (map with_counts (with_left encode_row shares r (none ∷ shares r))) ≡ sum_by part (none ∷ shares r)
  one_magnitude r i part at =
      ap (λ rows. sum_by (λ row. nat_abs (number (value_at row i))) rows) (map-map (λ m. (r, m)) with_counts (none ∷ shares r))
      ∙ sum_magnitudes (λ m. Unit {0}) (λ m. with_counts (r, m)) i part (λ m h. at m) (λ ms. sum_by part ms) refl (λ m ms. sym (sum_by-cons part m ms)) (none ∷ shares r)
      (all_units (none ∷ shares r))

  all_magnitudes : (r : RangeRow) → IsRangeRow ks r → flat_map (magnitudes (map with_counts (with_left encode_row shares r (none ∷ shares r)))) (g.aggs ks left right left_ok right_ok apart) ≡ difference_sums right r
  all_magnitudes r v =
      let at = λ (m : Counts). g.counts_at ks left right left_ok right_ok apart (r, m) v in
      let x = one_magnitude r w (λ m. m.least) (λ m. (at m).lo) ∙ g.most_gone ks left right left_ok right_ok apart r v in
      let y = one_magnitude r (w + 1) (λ m. m.guess) (λ m. (at m).sg) ∙ g.guess_gone ks left right left_ok right_ok apart r v in
      let z = one_magnitude r (w + 2) (λ m. m.most) (λ m. (at m).hi) ∙ g.least_gone ks left right left_ok right_ok apart r v in
      λ i. pos (x i) ∷ pos (y i) ∷ pos (z i) ∷ []

  -- the magnitudes of the grouping are the sums of the bounded operator
  grouping_numbers : group_numbers (run 0 w) (g.aggs ks left right left_ok right_ok apart) (map with_counts (g.entries ks left right left_ok right_ok apart)) ≡ flat_map (difference_sums right) left
  grouping_numbers =
      let aggs = g.aggs ks left right left_ok right_ok apart in
      ledger_numbers encode_row none shares (λ s. IsRangeRow ks s.0) with_counts (run 0 w) (g.same_key ks left right left_ok right_ok apart) aggs left apart (g.entries_fine ks left right left_ok right_ok apart)
      ∙ flat_map_valid (IsRangeRow ks) (λ r. flat_map (magnitudes (map with_counts (with_left encode_row shares r (none ∷ shares r)))) aggs) (difference_sums right) left left_ok all_magnitudes

  -- a row whose numbers fit
  abbrev IsKnown : RangeRow → Type 0
  IsKnown r = IsRangeRow ks r × FitRow r

  abbrev IsSafe : RangeRow × RangeRow → Type 0
  IsSafe s = IsKnown s.0 × IsKnown s.1

  -- what is taken from a row
  taken_fit : (s : RangeRow × RangeRow) → IsSafe s → Fit (grow_numbers (taken_columns c w u) (j.joined ks s))
  taken_fit s k =
      let v : j.IsPair ks s = (k.0.0, k.1.0) in
      let row = j.joined ks s in
      let new = encode_counts (j.share ks s.0 s.1) in
      let m = s.1.annot in
      let x = j.triple ks s v in
      let counts = parts_of m.least m.guess m.most k.1.1.triple in
      let lefts = j.lefts ks s v in
      let rights = j.rights ks s v in
      let z = zero_fits row in
      let same = same_fits row 0 w c s.0.cells s.1.cells (j.long ks s.0 v.0) (j.long ks s.1 v.1) lefts rights k.0.1.cells k.1.1.cells in
      let sure = surely_fits row 0 w c s.0.cells s.1.cells (j.long ks s.0 v.0) (j.long ks s.1 v.1) lefts rights k.0.1.cells k.1.1.cells in
      let a = column_fits row (u + 2) (cm m) (column_has row (u + 2) (cm m) x.hi) counts.2 in
      let b = case_fits row (sg u) zero_term (column_fits row (u + 1) (cg m) (column_has row (u + 1) (cg m) x.sg) counts.1) z (same_guesses 0 w c) same in
      let e = case_fits row (lo u) zero_term (column_fits row u (cl m) (column_has row u (cl m) x.lo) counts.0) z (surely_equal 0 w c) sure in
      (careful_grow (taken_columns c w u) row (row ++ new) (adds careful row (taken_columns c w u) new (all_careful row (taken_columns c w u) new (j.taken_mean ks s v) (a, (b, (e, tt)))))).1

  -- what is left of a row
  left_fit : (r : RangeRow) → IsRangeRow ks r → Fit (difference_sums right r) → FitRow r → Fit (grow_numbers (left_columns t w) (with_gone r))
  left_fit r v f k =
      let row = with_gone r in
      let new = encode_counts (less right r).annot in
      let p = parts_of (gone r).least (gone r).guess (gone r).most f in
      let q = parts_of r.annot.least r.annot.guess r.annot.most k.triple in
      let x = g.own_at ks left right left_ok right_ok apart r v in
      let y = g.counts_at ks left right left_ok right_ok apart (r, gone r) v in
      (careful_grow (left_columns t w) row (row ++ new)
      (adds careful row (left_columns t w) new (all_careful row (left_columns t w) new (g.left_mean ks left right left_ok right_ok apart r v) (
        less_fits row t w r.annot.least (gone r).least x.lo y.lo q.0 p.0,
        (less_fits row (t + 1) (w + 1) r.annot.guess (gone r).guess x.sg y.sg q.1 p.1, (less_fits row (t + 2) (w + 2) r.annot.most (gone r).most x.hi y.hi q.2 p.2, tt)),
      )))).1

  -- the test of what is left
  test_fits : (r : RangeRow) → IsRangeRow ks r → FitRow r → Fit (term_numbers (positive (hi (w + 3))) (whole r))
  test_fits r v k =
      let row = whole r in
      let q = parts_of r.annot.least r.annot.guess r.annot.most k.triple in
      let now = (less right r).annot.most in
      let fewer : now ≤ r.annot.most = omega arith in
      let at = g.new_at ks left right left_ok right_ok apart r v in
      fits_now row (positive (hi (w + 3)))
      (compare_fits row zero_term (hi (w + 3)) (zero_fits row)
      (column_fits row (w + 3 + 2) (cm (less right r).annot) (column_has row (w + 3 + 2) (cm (less right r).annot) at.hi) (lower_fits now r.annot.most fewer q.2)) Less)

  safe_pairs : (rs : Bounded) → AllByRecursion IsKnown rs → AllByRecursion IsKnown right → AllByRecursion IsSafe (pairs encode_row partners rs)
  safe_pairs [] v also = tt
  safe_pairs (r ∷ rs) v also =
      all_append IsSafe (with_left encode_row partners r (partners r)) (pairs encode_row partners rs)
      (all_made IsKnown IsSafe (λ m. (r, m)) (partners r) (all_filter IsKnown (j.meet ks r) right also) (λ m k. (v.0, k))) (safe_pairs rs v.1 also)

  -- the test of a pair, whether it meets or not
  meeting_fits : (r m : RangeRow) → IsKnown r → IsKnown m → Fit (term_numbers (meets_term 0 w c) (encode_row r ++ encode_row m))
  meeting_fits r m x y =
      let s : RangeRow × RangeRow = (r, m) in
      let v : j.IsPair ks s = (x.0, y.0) in
      let row = j.joined ks s in
      fits_now row (meets_term 0 w c) (meets_fits row 0 w c r.cells m.cells (j.long ks r x.0) (j.long ks m y.0) (j.lefts ks s v) (j.rights ks s v) x.1.cells y.1.cells)

  module _ (ts : List Rows) (p q : PlanTree) (gl : GivesEncoded ts p left) (gr : GivesEncoded ts q right) (fine : AllFitRows left) (also : AllFitRows right) (summing : Fit (flat_map (difference_sums right) left)) where
    abbrev join : PlanTree
    join = Join (meets_term 0 w c) p q

    known_left : AllByRecursion IsKnown left
    known_left = all_both (IsRangeRow ks) FitRow left left_ok fine

    known_right : AllByRecursion IsKnown right
    known_right = all_both (IsRangeRow ks) FitRow right right_ok also

    join_fits : Fit (plan_numbers p ts) → Fit (plan_numbers q ts) → Fit (plan_numbers join ts)
    join_fits np nq =
        let e = meets_term 0 w c in
        let Tested = λ (row : List Value). Fit (term_numbers e row) in
        let all = flat_map (λ a. map (λ b. a ++ b) (plain_rows q ts)) (plain_rows p ts) in
        let tested : AllByRecursion Tested (flat_map (λ a. map (λ b. a ++ b) (encode right)) (encode left)) =
        all_joined IsKnown IsKnown Tested encode_row encode_row meeting_fits left right known_left known_right in
        fit_both (plan_numbers p ts ++ plan_numbers q ts) (flat_map (term_numbers e) all)
        (fit_both (plan_numbers p ts) (plan_numbers q ts) np nq)
        (fit_all (term_numbers e) all
        (subst (λ rs. AllByRecursion Tested (flat_map (λ a. map (λ b. a ++ b) (plain_rows q ts)) rs)) (sym gl)
        (subst (λ rs. AllByRecursion Tested (flat_map (λ a. map (λ b. a ++ b) rs) (encode left))) (sym gr) tested)))

    taken_fits : Fit (plan_numbers p ts) → Fit (plan_numbers q ts) → Fit (plan_numbers (taken_plan c w p q) ts)
    taken_fits np nq =
        let Grown = λ (row : List Value). Fit (grow_numbers (taken_columns c w u) row) in
        numbers-extend_all ts (taken_columns c w u) join (join_fits np nq)
        (subst (λ rs. AllByRecursion Grown rs) (sym (g.joined_rows ks left right left_ok right_ok apart ts p q gl gr))
        (all_made IsSafe Grown (j.joined ks) (g.all_pairs ks left right left_ok right_ok apart) (safe_pairs left known_left known_right) taken_fit))

    summed_fits : Fit (plan_numbers p ts) → Fit (plan_numbers q ts) → Fit (plan_numbers (summed_plan c w p q) ts)
    summed_fits np nq =
        let aggs = g.aggs ks left right left_ok right_ok apart in
        let zeros = numbers-extend_all ts no_columns p np (all_of (λ row. Fit (grow_numbers no_columns row)) (λ row. refl) (plain_rows p ts)) in
        let both = Union (extend_all no_columns p) (taken_plan c w p q) in
        fit_both (plan_numbers both ts) (group_numbers (run 0 w) aggs (plain_rows both ts))
        (fit_both (plan_numbers (extend_all no_columns p) ts) (plan_numbers (taken_plan c w p q) ts) zeros (taken_fits np nq))
        (subst (λ rs. Fit (group_numbers (run 0 w) aggs rs)) (sym (g.entry_rows ks left right left_ok right_ok apart ts p q gl gr))
        (subst (λ ns. Fit ns) (sym grouping_numbers) summing))

    abbrev IsCounted : RangeRow → Type 0
    IsCounted r = IsRangeRow ks r × (Fit (difference_sums right r) × FitRow r)

    -- Difference's plan adds no number that does not fit.
    pub difference_fits : Fit (plan_numbers p ts) → Fit (plan_numbers q ts) → Fit (plan_numbers (difference_plan c p q) ts)
    difference_fits np nq =
        let e = positive (hi (w + 3)) in
        let Grown = λ (row : List Value). Fit (grow_numbers (left_columns t w) row) in
        let Tested = λ (row : List Value). Fit (term_numbers e row) in
        let all = all_both (IsRangeRow ks) (λ r. Fit (difference_sums right r) × FitRow r) left left_ok
        (all_both (λ r. Fit (difference_sums right r)) FitRow left (all_fit (difference_sums right) left summing) fine) in
        let last = extend_all (left_columns t w) (summed_plan c w p q) in
        let last_fit =
        numbers-extend_all ts (left_columns t w) (summed_plan c w p q) (summed_fits np nq)
        (subst (λ rs. AllByRecursion Grown rs) (sym (g.summed_rows ks left right left_ok right_ok apart ts p q gl gr))
        (all_made IsCounted Grown with_gone left all (λ r h. left_fit r h.0 h.1.0 h.1.1))) in
        numbers-filter ts e last last_fit
        (subst (λ rs. AllByRecursion Tested rs) (sym (g.whole_rows ks left right left_ok right_ok apart ts p q gl gr))
        (all_made IsCounted Tested whole left all (λ r h. test_fits r h.0 h.1.1)))
