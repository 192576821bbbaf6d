-- The numbers of the columns of a pair of a box and a fold, and of the sums over them.
use Rattle.std.specs.Prelude.{◌≡◌, ◌≤◌, ℕ, ◌+◌, ◌*◌, Bool, true, false, cond, List, [], ◌∷◌, ◌++◌, length, map, filter, flat_map, sum_by, ℤ, pos, nat_abs, Some, if◌then◌else◌}
use Rattle.std.specs.List.{AllByRecursion, AllZip}
use Rattle.std.proofs.Common.{arith, refl, sym, ◌∙◌, ap, subst}
use Rattle.std.proofs.lemmas.Bool.{true≢false}
use Rattle.std.proofs.lemmas.List.Sums.{sum_by-cons}
use Rattle.au_value.specs.declared.value.Value.{Value}
use Rattle.au_value.specs.declared.value.Value.TheVariants as value
use Rattle.au_expr.specs.Figures.{Fit}
use Rattle.au_expr.specs.Ordinary.{number}
use Rattle.au_expr.proofs.Fits.{fit_both, fit_parts}
use Rattle.au_algebra.specs.declared.query.Agg.{Agg}
use Rattle.au_algebra.specs.declared.query.Agg.TheVariants as agg
use Rattle.au_algebra.specs.Bounded.{RangeRow, Bounded, Grouped, lower_term, upper_term, guess_term}
use Rattle.au_algebra.specs.Fits.{agg_numbers, term_numbers}
use Rattle.au_algebra.specs.Laws.{IsRangeRow, IsRelation}
use Rattle.au_algebra.specs.Lists.{int_sum, value_at}
use Rattle.au_algebra.proofs.Each.{all_from}
use Rattle.au_plain.specs.declared.plan.PAgg.{PAgg}
use Rattle.au_plain.specs.PTerms.{Column, And, Case}
use Rattle.au_plain.specs.PlanNumbers.{magnitudes}
use Rattle.au_plain.proofs.Held.{ValueFits, RowFits}
use Rattle.au_rwexpr.specs.Adding.{grow_numbers}
use Rattle.au_rwexpr.specs.Counts.{zero_term, one_term}
use Rattle.au_rwexpr.specs.Meets.{same_guesses}
use Rattle.au_rwexpr.proofs.Allowed.{all_both, all_of, lower_fits}
use Rattle.au_rwexpr.proofs.Careful.{careful, careful_grow}
use Rattle.au_rwexpr.proofs.Columns.{then_adds}
use Rattle.au_rwexpr.proofs.Gives.{map-map}
use Rattle.au_rwexpr.proofs.Places.{At}
use Rattle.au_combine.proofs.JoinGroups.{with_left}
use Rattle.au_rwgroup.specs.Folds.{fold_width}
use Rattle.au_rwgroup.specs.Groups.{all_sure}
use Rattle.au_rwgroup.specs.GroupPlan as plans
use Rattle.au_rwgroup.specs.GroupPlan.{Places, kept_for, all_member_columns, each_member_columns, all_member_aggs}
use Rattle.au_rwgroup.proofs.FoldRows.{summed}
use Rattle.au_rwgroup.proofs.Sharing.{Fold, IsFold, Sharing}
use Rattle.au_rwgroup.proofs.Sizes.{sum_made, zeros, sizes_of, number_fits, each_within}
use Rattle.au_rwgroup.proofs.FitTerms.{Safe, reads_safe, weighs_safe, safe_columns, same_reads, sure_reads}
use Rattle.au_rwgroup.proofs.MemberColumns as member
use Rattle.au_rwgroup.proofs.ColumnsThere.{IsOn}
use Rattle.au_rwgroup.proofs.GroupRows as rows_of
use Rattle.au_rwgroup.proofs.SecondRows as second
use Rattle.au_rwgroup.proofs.KeyReading.{KeyReading}

-- magnitudes over those that meet, of those that are the same, where these meet
size_by : (same : RangeRow → Bool) (t : RangeRow → ℤ) (a b : Bool) (r : RangeRow) (xs ys : Bounded) → same r ≡ b → (b ≡ true → a ≡ true) → sum_by nat_abs (map (λ s. if same s then t s else pos 0) xs) ≡ sum_by nat_abs (map t ys) → sum_by nat_abs (map (λ s. if same s then t s else pos 0) (cond a (r ∷ xs) xs)) ≡ sum_by nat_abs (map t (cond b (r ∷ ys) ys))
size_by same t true true r xs ys e h ih =
    sum_by-cons nat_abs (if same r then t r else pos 0) (map (λ s. if same s then t s else pos 0) xs)
    ∙ (λ i. nat_abs (if e i then t r else pos 0) + ih i)
    ∙ sym (sum_by-cons nat_abs (t r) (map t ys))
size_by same t true false r xs ys e h ih =
    sum_by-cons nat_abs (if same r then t r else pos 0) (map (λ s. if same s then t s else pos 0) xs)
    ∙ (λ i. nat_abs (if e i then t r else pos 0) + ih i)
    ∙ (let z : 0 + sum_by nat_abs (map t ys) ≡ sum_by nat_abs (map t ys) = omega arith in z)
size_by same t false true r xs ys e h ih = absurd (true≢false (sym (h refl)))
size_by same t false false r xs ys e h ih = ih

same_size : (V : RangeRow → Type 0) (meet same : RangeRow → Bool) (t : RangeRow → ℤ) → ((r : RangeRow) → V r → same r ≡ true → meet r ≡ true) → (rows : Bounded) → AllByRecursion V rows → sum_by nat_abs (map (λ s. if same s then t s else pos 0) (filter meet rows)) ≡ sum_by nat_abs (map t (filter same rows))
same_size V meet same t implied [] v = refl
same_size V meet same t implied (r ∷ rows) v =
    size_by same t (meet r) (same r) r (filter meet rows) (filter same rows) refl (implied r v.0) (same_size V meet same t implied rows v.1)

module _ (by : KeyReading) (aggs : List Agg) (ok_aggs : AllByRecursion (IsOn (length by.ks)) aggs) (rows : Bounded) (ok : IsRelation by.ks rows) (shared : Sharing by rows) where
  abbrev more : List PAgg
  more = flat_map kept_for aggs

  abbrev c : ℕ
  c = length by.ks

  abbrev b : ℕ
  b = 3 * by.k + 3 + length more

  abbrev t : ℕ
  t = b + fold_width by.k (length aggs)

  abbrev places : Places
  places = plans.places by.k b t

  abbrev Pair : Type 0
  Pair = List Value × Fold

  abbrev IsPair : Pair → Type 0
  IsPair s = second.IsPair by more aggs rows ok s

  abbrev IsKey : List Value → Type 0
  IsKey key = second.IsKey by more aggs rows ok key

  abbrev joined : Pair → List Value
  joined s = second.joined by more aggs rows ok s

  abbrev box_row : List Value → List Value
  box_row key = second.box_row by more aggs rows ok key

  abbrev members : List Value → Bounded
  members key = second.members by more aggs rows ok key

  abbrev group_at : List Value → Grouped
  group_at key = member.group_at by more aggs rows ok key

  abbrev belongs : List Value → RangeRow → Bool
  belongs key r = member.belongs_to by more aggs rows ok key r

  abbrev fold_1 : Agg → Pair → Value
  fold_1 a s = member.fold_1 by more aggs rows ok a s

  abbrev fold_2 : Agg → Pair → Value
  fold_2 a s = member.fold_2 by more aggs rows ok a s

  abbrev fold_3 : Agg → Pair → Value
  fold_3 a s = member.fold_3 by more aggs rows ok a s

  -- the folds that overlap a box
  abbrev folds : List Value → List Fold
  folds key = second.folds by more aggs rows ok shared key

  abbrev values : List Agg → Pair → List Value
  values bs s = member.values by more aggs rows ok bs s

  -- what a pair adds to sums fits
  abbrev pub TermsFit : List Agg → Pair → Type 0
  TermsFit [] s = Unit {0}
  TermsFit (agg.Sum d ∷ bs) s = (ValueFits (fold_1 (agg.Sum d) s) × (ValueFits (fold_2 (agg.Sum d) s) × ValueFits (fold_3 (agg.Sum d) s))) × TermsFit bs s
  TermsFit (agg.Min d ∷ bs) s = TermsFit bs s
  TermsFit (agg.Max d ∷ bs) s = TermsFit bs s

  members_safe : (s : Pair) (q y : ℕ) (bs : List Agg) → TermsFit bs s → AllZip Safe (each_member_columns places q y bs) (values bs s)
  members_safe s q y [] f = (reads_safe (Case (plans.surely places) one_term zero_term) _ (tt, (refl, refl)), tt)
  members_safe s q y (agg.Sum d ∷ bs) f = (
    weighs_safe (plans.with_sure places y (y + 3)) (fold_1 (agg.Sum d) s) (tt, ((tt, tt), tt)) f.0.0,
    (
      reads_safe (Case (plans.belongs places) (Column (y + 1)) zero_term) _ (tt, (tt, refl)),
      (
        weighs_safe (plans.with_sure places (y + 2) (y + 4)) (fold_3 (agg.Sum d) s) (tt, ((tt, tt), tt)) f.0.1.1,
        (reads_safe zero_term (value.Int (pos 0)) refl, members_safe s q (y + 5) bs f.1),
      ),
    ),
  )
  members_safe s q y (agg.Min d ∷ bs) f = (
    reads_safe (Column y) _ tt,
    (
      reads_safe (Case (plans.guessed places) (Column (y + 1)) (Column (q + 1))) _ (tt, (tt, tt)),
      (reads_safe (Case (plans.surely places) (Column (y + 2)) (Column q)) _ (tt, (tt, tt)), (reads_safe (Column (y + 3)) _ tt, members_safe s (q + 2) (y + 5) bs f)),
    ),
  )
  members_safe s q y (agg.Max d ∷ bs) f = (
    reads_safe (Column y) _ tt,
    (
      reads_safe (Case (plans.guessed places) (Column (y + 1)) (Column (q + 1))) _ (tt, (tt, tt)),
      (reads_safe (Case (plans.surely places) (Column (y + 2)) (Column q)) _ (tt, (tt, tt)), (reads_safe (Column (y + 3)) _ tt, members_safe s (q + 2) (y + 5) bs f)),
    ),
  )

  -- The columns of a pair whose numbers fit make no number that does not fit.
  pub columns_fit : (s : Pair) → IsPair s → member.KeptAt by more aggs rows ok (joined s) (3 * by.k + 3) s.0 aggs → RowFits (joined s) → TermsFit aggs s → Fit (grow_numbers (all_member_columns places (3 * by.k + 3) aggs) (joined s))
  columns_fit s v kept f terms =
      let q = 3 * by.k + 3 in
      let tests = plans.tests places in
      let weights = plans.weights places in
      let y = b + 3 * by.k + 2 in
      let each = each_member_columns places q y aggs in
      let row = joined s in
      let first = member.test_values by more aggs rows ok s in
      let next = member.weight_values by more aggs rows ok s in
      let tested = row ++ first in
      let weighed = tested ++ next in
      let last = weighed ++ values aggs s in
      let there = member.kept_more by more aggs rows ok tested next q s.0 aggs (member.kept_more by more aggs rows ok row first q s.0 aggs kept) in
      let w = safe_columns row tests first (member.tests_mean by more aggs rows ok s v) (
        reads_safe (And (all_sure b by.k) (all_sure 0 by.k)) _ (sure_reads b by.k, sure_reads 0 by.k),
        (reads_safe (same_guesses 0 b by.k) _ (same_reads 0 b by.k), tt),
      ) f in
      let x = safe_columns tested weights next (member.weights_mean by more aggs rows ok s v) (
        reads_safe (And (plans.is_sure places) (Column (b + 3 * by.k))) _ (tt, tt),
        (reads_safe (And (plans.belongs places) (Column (b + 3 * by.k + 1))) _ (tt, tt), tt),
      ) w.1 in
      let z = safe_columns weighed each (values aggs s) (member.members_mean by more aggs rows ok s v q y aggs there (member.fives by more aggs rows ok s v)) (members_safe s q y aggs terms) x.1 in
      (careful_grow (all_member_columns places q aggs) row last
      (then_adds careful tests (weights ++ each) row tested (Some last) w.0 (then_adds careful weights each tested weighed (Some last) x.0 z.0))).1

  -- the magnitudes of sums over the folds of a box are within those of its members
  sizes_within : (key : List Value) (f : RangeRow → ℤ) → sum_by (λ fold. nat_abs (int_sum (map f fold.rows))) (folds key) ≤ sum_by nat_abs (map f (members key))
  sizes_within key f =
      subst (λ n. sum_by (λ fold. nat_abs (int_sum (map f fold.rows))) (folds key) ≤ n) (sym (sizes_of f (members key)))
      (subst (λ ms. sum_by (λ fold. nat_abs (int_sum (map f fold.rows))) (folds key) ≤ sum_by (λ r. nat_abs (f r)) ms) (second.members_are by more aggs rows ok key)
      (shared.sizes (second.fold_overlaps by more aggs rows ok key) f))

  -- so each of these sums fits where those do
  sums_fit : (key : List Value) (f : RangeRow → ℤ) → Fit (pos (sum_by nat_abs (map f (members key))) ∷ []) → AllByRecursion (λ fold. ValueFits (summed f fold.rows)) (folds key)
  sums_fit key f fits =
      let n = sum_by nat_abs (map f (members key)) in
      all_from (λ fold. nat_abs (int_sum (map f fold.rows)) ≤ n) (λ fold. ValueFits (summed f fold.rows)) (folds key)
      (λ fold h. number_fits (int_sum (map f fold.rows)) n h fits)
      (each_within (λ fold. nat_abs (int_sum (map f fold.rows))) n (folds key) (sizes_within key f))

  -- the guessed sum of the members is that of the rows that belong
  abbrev guess_if : List Value → ℕ → RangeRow → ℤ
  guess_if key d r = if belongs key r then guess_term d r else pos 0

  guess_size : (key : List Value) → IsKey key → (d : ℕ) → sum_by nat_abs (map (guess_if key d) (members key)) ≡ sum_by nat_abs (map (guess_term d) (group_at key).belonging)
  guess_size key some d =
      same_size (IsRangeRow by.ks) (second.overlaps by more aggs rows ok key) (belongs key) (guess_term d) (λ r v h. second.belongs_overlaps by more aggs rows ok key some r v h) rows ok

  -- the sums of an aggregate over the members of a box
  pub record SumsFit (key : List Value) (d : ℕ) : Type 0 where
    pub lower : Fit (pos (sum_by nat_abs (map (lower_term (group_at key) d) (members key))) ∷ [])
    pub guess : Fit (pos (sum_by nat_abs (map (guess_term d) (group_at key).belonging)) ∷ [])
    pub upper : Fit (pos (sum_by nat_abs (map (upper_term (group_at key) d) (members key))) ∷ [])

  pub sums_of : (key : List Value) (d : ℕ) → Fit (agg_numbers (group_at key) (agg.Sum d)) → SumsFit key d
  sums_of key d f =
      let g = group_at key in
      let lowers = map (lower_term g d) g.members in
      let guesses = map (guess_term d) g.belonging in
      let uppers = map (upper_term g d) g.members in
      let l = fit_parts (term_numbers lowers) (term_numbers guesses ++ term_numbers uppers) f in
      let m = fit_parts (term_numbers guesses) (term_numbers uppers) l.1 in
      record {
        lower = (fit_parts (pos (sum_by nat_abs lowers) ∷ []) lowers l.0).0;
        guess = (fit_parts (pos (sum_by nat_abs guesses) ∷ []) guesses m.0).0;
        upper = (fit_parts (pos (sum_by nat_abs uppers) ∷ []) uppers m.1).0;
      }

  -- what each fold adds fits where the numbers of the aggregates do
  pub key_terms : (key : List Value) → IsKey key → (bs : List Agg) → Fit (flat_map (agg_numbers (group_at key)) bs) → AllByRecursion (λ fold. TermsFit bs (key, fold)) (folds key)
  key_terms key some [] f = all_of (λ fold. Unit {0}) (λ fold. tt) (folds key)
  key_terms key some (agg.Sum d ∷ bs) f =
      let p = fit_parts (agg_numbers (group_at key) (agg.Sum d)) (flat_map (agg_numbers (group_at key)) bs) f in
      let sums = sums_of key d p.0 in
      let low = sums_fit key (lower_term (group_at key) d) sums.lower in
      let guess = sums_fit key (guess_if key d) (subst (λ n. Fit (pos n ∷ [])) (sym (guess_size key some d)) sums.guess) in
      let high = sums_fit key (upper_term (group_at key) d) sums.upper in
      all_both (λ fold. ValueFits (fold_1 (agg.Sum d) (key, fold)) × (ValueFits (fold_2 (agg.Sum d) (key, fold)) × ValueFits (fold_3 (agg.Sum d) (key, fold)))) (λ fold. TermsFit bs (key, fold)) (folds key)
      (all_both (λ fold. ValueFits (fold_1 (agg.Sum d) (key, fold))) (λ fold. ValueFits (fold_2 (agg.Sum d) (key, fold)) × ValueFits (fold_3 (agg.Sum d) (key, fold))) (folds key) low
      (all_both (λ fold. ValueFits (fold_2 (agg.Sum d) (key, fold))) (λ fold. ValueFits (fold_3 (agg.Sum d) (key, fold))) (folds key) guess high))
      (key_terms key some bs p.1)
  key_terms key some (agg.Min d ∷ bs) f = key_terms key some bs f
  key_terms key some (agg.Max d ∷ bs) f = key_terms key some bs f

  abbrev wide : Pair → List Value
  wide s = rows_of.wide by aggs ok_aggs rows ok shared s

  abbrev ValuesAt : List Value → ℕ → Pair → List Agg → Type 0
  ValuesAt row m s bs = rows_of.ValuesAt by aggs ok_aggs rows ok shared row m s bs

  abbrev own_rows : List Value → List (List Value)
  own_rows key = map wide (with_left box_row folds key (folds key))

  -- the magnitudes of a column over the folds
  magnitude : (key : List Value) (i : ℕ) (f : RangeRow → ℤ) → ((fold : Fold) → IsFold by fold → At (wide (key, fold)) i (summed f fold.rows)) → sum_by (λ row. nat_abs (number (value_at row i))) (own_rows key) ≤ sum_by nat_abs (map f (members key))
  magnitude key i f at =
      let each = λ (fold : Fold). int_sum (map f fold.rows) in
      subst (λ n. n ≤ sum_by nat_abs (map f (members key)))
      (sym (sizes_of each (folds key)) ∙ sym (sum_made (IsFold by) (λ fold. wide (key, fold)) i each (folds key) (second.folds_ok by more aggs rows ok shared key) at)
      ∙ sym (ap (sum_by (λ row. nat_abs (number (value_at row i)))) (map-map (λ fold. (key, fold)) wide (folds key))))
      (sizes_within key f)

  -- The sums over the folds of a box fit where the numbers of the aggregates do.
  pub over_fits : (key : List Value) → IsKey key → (m : ℕ) (bs : List Agg) → ((fold : Fold) → IsFold by fold → ValuesAt (wide (key, fold)) m (key, fold) bs) → Fit (flat_map (agg_numbers (group_at key)) bs) → Fit (flat_map (magnitudes (own_rows key)) (all_member_aggs m bs))
  over_fits key some m [] at f = refl
  over_fits key some m (agg.Sum d ∷ bs) at f =
      let g = group_at key in
      let size = λ (i : ℕ). sum_by (λ row. nat_abs (number (value_at row i))) (own_rows key) in
      let p = fit_parts (agg_numbers g (agg.Sum d)) (flat_map (agg_numbers g) bs) f in
      let sums = sums_of key d p.0 in
      let low = lower_fits (size m) (sum_by nat_abs (map (lower_term g d) (members key))) (magnitude key m (lower_term g d) (λ fold v. (at fold v).0.0)) sums.lower in
      let guess = lower_fits (size (m + 1)) (sum_by nat_abs (map (guess_if key d) (members key))) (magnitude key (m + 1) (guess_if key d) (λ fold v. (at fold v).0.1)) (subst (λ n. Fit (pos n ∷ [])) (sym (guess_size key some d)) sums.guess) in
      let high = lower_fits (size (m + 2)) (sum_by nat_abs (map (upper_term g d) (members key))) (magnitude key (m + 2) (upper_term g d) (λ fold v. (at fold v).0.2)) sums.upper in
      let none : size (m + 3) ≡ 0 =
      ap (sum_by (λ row. nat_abs (number (value_at row (m + 3))))) (map-map (λ fold. (key, fold)) wide (folds key))
      ∙ sum_made (IsFold by) (λ fold. wide (key, fold)) (m + 3) (λ fold. pos 0) (folds key) (second.folds_ok by more aggs rows ok shared key) (λ fold v. (at fold v).0.3) ∙ zeros (folds key) in
      let rest = flat_map (magnitudes (own_rows key)) (all_member_aggs (m + 4) bs) in
      fit_both (pos (size m) ∷ []) (pos (size (m + 1)) ∷ pos (size (m + 2)) ∷ pos (size (m + 3)) ∷ rest) low
      (fit_both (pos (size (m + 1)) ∷ []) (pos (size (m + 2)) ∷ pos (size (m + 3)) ∷ rest) guess
      (fit_both (pos (size (m + 2)) ∷ []) (pos (size (m + 3)) ∷ rest) high
      (fit_both (pos (size (m + 3)) ∷ []) rest (subst (λ n. Fit (pos n ∷ [])) (sym none) refl) (over_fits key some (m + 4) bs (λ fold v. (at fold v).1) p.1))))
  over_fits key some m (agg.Min d ∷ bs) at f = over_fits key some (m + 4) bs (λ fold v. (at fold v).1) f
  over_fits key some m (agg.Max d ∷ bs) at f = over_fits key some (m + 4) bs (λ fold v. (at fold v).1) f
