-- The columns of a pair of a box and a fold: what its rows add to sums, and what they offer to MIN and MAX.
use Rattle.std.specs.Prelude.{◌≡◌, ◌<◌, ℕ, ◌+◌, ◌*◌, Bool, true, false, ◌&&◌, cond, List, [], ◌∷◌, ◌++◌, length, map, filter, flat_map, ℤ, pos, ◌+ℤ◌, nat_le, Some, unwrap_or, if◌then◌else◌}
use Rattle.std.specs.List.{AllByRecursion}
use Rattle.std.proofs.Common.{arith, refl, sym, ◌∙◌, ap, subst, append_assoc}
use Rattle.std.proofs.Math.IntN.{+ℤ_idl}
use Rattle.std.proofs.lemmas.Bool.{true≢false}
use Rattle.std.proofs.lemmas.List.{length-append}
use Rattle.au_value.specs.declared.value.Value.{Value}
use Rattle.au_value.specs.declared.value.Value.TheVariants as value
use Rattle.au_value.specs.Ranges.{IsRangeOf, all_certain, guesses, certain}
use Rattle.au_expr.specs.Ordinary as on_values
use Rattle.au_expr.specs.Ordinary.{is_true}
use Rattle.au_algebra.specs.declared.query.Agg.{Agg}
use Rattle.au_algebra.specs.declared.query.Agg.TheVariants as agg
use Rattle.au_algebra.specs.Lists.{same_row, int_sum, least, greatest, value_at}
use Rattle.au_algebra.specs.Bounded.{RangeRow, Bounded, Grouped, lower_term, upper_term, guess_term, range_at}
use Rattle.au_algebra.specs.Laws.{IsRangeRow, IsRelation}
use Rattle.au_algebra.proofs.Each.{all_filter, all_from}
use Rattle.au_plain.specs.declared.plan.PAgg.{PAgg}
use Rattle.au_plain.specs.declared.plan.PAgg.TheVariants.{Min, Max}
use Rattle.au_plain.specs.PTerms.{And}
use Rattle.au_plain.specs.Meaning.{plain_aggregate}
use Rattle.au_encode.specs.Encode.{encode_cells}
use Rattle.au_encode.proofs.Decoded.{cells_length}
use Rattle.au_rwexpr.specs.Meets.{same_guesses}
use Rattle.au_rwgroup.specs.Groups.{all_sure}
use Rattle.au_rwgroup.specs.Folds.{fold_width}
use Rattle.au_rwgroup.proofs.FoldRows as folds_of
use Rattle.au_rwgroup.proofs.FoldRows.{ValuesAt, values_more, low_term, high_term, sure_low_term, sure_high_term, summed}
use Rattle.au_rwgroup.proofs.FoldTerms.{greatest_all, least_if_all, greatest_if_all, summed_if, sum_if_sure, lower_is, upper_is}
use Rattle.au_rwgroup.specs.GroupPlan as plans
use Rattle.au_rwgroup.specs.GroupPlan.{Places, each_member_columns, all_member_columns, kept_for}
use Rattle.au_rwexpr.proofs.Places.{At, at_more, at_past, Ends, EndsOfAll, ends_at}
use Rattle.au_rwexpr.proofs.Columns.{AllMean, adds, add_columns, then_adds}
use Rattle.au_rwexpr.proofs.OnValues.{reading, Has, column_has}
use Rattle.au_rwexpr.proofs.Picks.{all_ends_long}
use Rattle.au_combine.proofs.BoxPlaces.{at_own}
use Rattle.au_combine.proofs.BoxRows.{cell}
use Rattle.au_rwgroup.proofs.FirstGroup.{sure_has}
use Rattle.au_rwexpr.proofs.Flags.{counted, flag_counted}
use Rattle.au_rwexpr.proofs.Meeting.{same_has}
use Rattle.au_rwgroup.proofs.SecondRows as second
use Rattle.au_rwgroup.proofs.Sharing.{Fold, fold_row, key_long, spans_long}
use Rattle.au_rwexpr.proofs.Gives.{map-map, map_valid}
use Rattle.au_rwgroup.proofs.FirstGroup as group
use Rattle.au_rwexpr.proofs.Coded.{rl, rs, rh}
use Rattle.au_rwgroup.proofs.KeyReading.{KeyReading, grouped_in}

int_by : (V : RangeRow → Type 0) (meet same : RangeRow → Bool) (t : RangeRow → ℤ) (a b : Bool) (r : RangeRow) (xs ys : Bounded) → same r ≡ b → (b ≡ true → a ≡ true) → int_sum (map (λ s. if same s then t s else pos 0) xs) ≡ int_sum (map t ys) → int_sum (map (λ s. if same s then t s else pos 0) (cond a (r ∷ xs) xs)) ≡ int_sum (map t (cond b (r ∷ ys) ys))
int_by V meet same t true true r xs ys e h ih = λ i. (if e i then t r else pos 0) +ℤ ih i
int_by V meet same t true false r xs ys e h ih = (λ i. (if e i then t r else pos 0) +ℤ ih i) ∙ +ℤ_idl (int_sum (map t ys))
int_by V meet same t false true r xs ys e h ih = absurd (true≢false (sym (h refl)))
int_by V meet same t false false r xs ys e h ih = ih

-- a sum over those that meet, of those that are the same, where these meet
pub sum_same : (V : RangeRow → Type 0) (meet same : RangeRow → Bool) (t : RangeRow → ℤ) → ((r : RangeRow) → V r → same r ≡ true → meet r ≡ true) → (rows : Bounded) → AllByRecursion V rows → int_sum (map (λ s. if same s then t s else pos 0) (filter meet rows)) ≡ int_sum (map t (filter same rows))
sum_same V meet same t implied [] v = refl
sum_same V meet same t implied (r ∷ rows) v =
    int_by V meet same t (meet r) (same r) r (filter meet rows) (filter same rows) refl (implied r v.0) (sum_same V meet same t implied rows v.1)

module _ (by : KeyReading) (more : List PAgg) (folded : List Agg) (rows : Bounded) (ok : IsRelation by.ks rows) where
  abbrev c : ℕ
  c = length by.ks

  abbrev b : ℕ
  b = 3 * by.k + 3 + length more

  abbrev t : ℕ
  t = b + fold_width by.k (length folded)

  abbrev places : Places
  places = record { keys = by.k; fold = b; tests = t }

  abbrev Joined : List Value × Fold → List Value
  Joined s = second.joined by more folded rows ok s

  abbrev IsPair : List Value × Fold → Type 0
  IsPair s = second.IsPair by more folded rows ok s

  abbrev pub group_at : List Value → Grouped
  group_at key = grouped_in by rows key

  abbrev pub is_sure : List Value × RangeRow → Bool
  is_sure s = (group_at s.0).is_certain_member s.1

  abbrev is_sure_copy : List Value × RangeRow → Bool
  is_sure_copy s = is_sure s && nat_le 1 s.1.annot.least

  abbrev pub belongs_to : List Value → RangeRow → Bool
  belongs_to key r = same_row key (guesses (by.keys r.cells))

  abbrev is_guessed_copy : List Value × RangeRow → Bool
  is_guessed_copy s = belongs_to s.0 s.1 && nat_le 1 s.1.annot.guess

  -- what is kept of the rows that belong to a box
  abbrev pub keep : List Value → PAgg → Value
  keep key a = plain_aggregate (map (group.wide by) (filter (belongs_to key) rows)) a

  -- the four values of a box and a row
  abbrev pub value_1 : Agg → List Value × RangeRow → Value
  value_1 (agg.Sum d) s = value.Int (lower_term (group_at s.0) d s.1)
  value_1 (agg.Min d) s = (range_at d s.1).lo
  value_1 (agg.Max d) s = (range_at d s.1).hi

  abbrev pub value_2 : Agg → List Value × RangeRow → Value
  value_2 (agg.Sum d) s = value.Int (if belongs_to s.0 s.1 then guess_term d s.1 else pos 0)
  value_2 (agg.Min d) s = if is_guessed_copy s then (range_at d s.1).sg else keep s.0 (Max (3 * d + 1))
  value_2 (agg.Max d) s = if is_guessed_copy s then (range_at d s.1).sg else keep s.0 (Min (3 * d + 1))

  abbrev pub value_3 : Agg → List Value × RangeRow → Value
  value_3 (agg.Sum d) s = value.Int (upper_term (group_at s.0) d s.1)
  value_3 (agg.Min d) s = if is_sure_copy s then (range_at d s.1).hi else keep s.0 (Max (3 * d + 2))
  value_3 (agg.Max d) s = if is_sure_copy s then (range_at d s.1).lo else keep s.0 (Min (3 * d))

  abbrev pub value_4 : Agg → List Value × RangeRow → Value
  value_4 (agg.Sum d) s = value.Int (pos 0)
  value_4 (agg.Min d) s = (range_at d s.1).hi
  value_4 (agg.Max d) s = (range_at d s.1).lo

  -- the four values of a box and a fold: those of the box and the fold's rows in one
  abbrev pub fold_1 : Agg → List Value × Fold → Value
  fold_1 (agg.Sum d) s = summed (lower_term (group_at s.0) d) s.1.rows
  fold_1 (agg.Min d) s = least (map (λ r. value_1 (agg.Min d) (s.0, r)) s.1.rows)
  fold_1 (agg.Max d) s = greatest (map (λ r. value_1 (agg.Max d) (s.0, r)) s.1.rows)

  abbrev pub fold_2 : Agg → List Value × Fold → Value
  fold_2 (agg.Sum d) s = summed (λ r. if belongs_to s.0 r then guess_term d r else pos 0) s.1.rows
  fold_2 (agg.Min d) s = least (map (λ r. value_2 (agg.Min d) (s.0, r)) s.1.rows)
  fold_2 (agg.Max d) s = greatest (map (λ r. value_2 (agg.Max d) (s.0, r)) s.1.rows)

  abbrev pub fold_3 : Agg → List Value × Fold → Value
  fold_3 (agg.Sum d) s = summed (upper_term (group_at s.0) d) s.1.rows
  fold_3 (agg.Min d) s = least (map (λ r. value_3 (agg.Min d) (s.0, r)) s.1.rows)
  fold_3 (agg.Max d) s = greatest (map (λ r. value_3 (agg.Max d) (s.0, r)) s.1.rows)

  abbrev pub fold_4 : Agg → List Value × Fold → Value
  fold_4 (agg.Sum d) s = value.Int (pos 0)
  fold_4 (agg.Min d) s = greatest (map (λ r. value_4 (agg.Min d) (s.0, r)) s.1.rows)
  fold_4 (agg.Max d) s = least (map (λ r. value_4 (agg.Max d) (s.0, r)) s.1.rows)

  -- whether a row is surely there
  abbrev pub fold_there : List Value × Fold → Value
  fold_there s = greatest (map (λ r. counted (is_sure_copy (s.0, r))) s.1.rows)

  -- the columns of a pair of a box and a fold
  abbrev pub values : List Agg → List Value × Fold → List Value
  values [] s = fold_there s ∷ []
  values (a ∷ aggs) s = fold_1 a s ∷ fold_2 a s ∷ fold_3 a s ∷ fold_4 a s ∷ values aggs s

  -- the kept columns by their places
  abbrev pub KeptAt : List Value → ℕ → List Value → List Agg → Type 0
  KeptAt row q key [] = Unit {0}
  KeptAt row q key (agg.Sum d ∷ aggs) = KeptAt row q key aggs
  KeptAt row q key (agg.Min d ∷ aggs) = (At row q (keep key (Max (3 * d + 2))) × At row (q + 1) (keep key (Max (3 * d + 1)))) × KeptAt row (q + 2) key aggs
  KeptAt row q key (agg.Max d ∷ aggs) = (At row q (keep key (Min (3 * d))) × At row (q + 1) (keep key (Min (3 * d + 1)))) × KeptAt row (q + 2) key aggs

  two_at : (pre rest : List Value) (q : ℕ) (x y : Value) → length pre ≡ q → At (pre ++ (x ∷ y ∷ rest)) q x × At (pre ++ (x ∷ y ∷ rest)) (q + 1) y
  two_at pre rest q x y e = (at_past pre (x ∷ y ∷ rest) 0 q x (omega (arith, e)) refl, at_past pre (x ∷ y ∷ rest) 1 (q + 1) y (omega (arith, e)) refl)

  kept_step : (pre rest added : List Value) (q : ℕ) (key : List Value) (aggs : List Agg) (x y : Value) → KeptAt (((pre ++ (x ∷ y ∷ [])) ++ rest) ++ added) (q + 2) key aggs → KeptAt ((pre ++ (x ∷ y ∷ rest)) ++ added) (q + 2) key aggs
  kept_step pre rest added q key aggs x y h = subst (λ r. KeptAt (r ++ added) (q + 2) key aggs) (append_assoc pre (x ∷ y ∷ []) rest) h

  pub kept_at : (pre added : List Value) (q : ℕ) (key : List Value) (aggs : List Agg) → length pre ≡ q → KeptAt ((pre ++ map (keep key) (flat_map kept_for aggs)) ++ added) q key aggs
  kept_at pre added q key [] e = tt
  kept_at pre added q key (agg.Sum d ∷ aggs) e = kept_at pre added q key aggs e
  kept_at pre added q key (agg.Min d ∷ aggs) e =
      let x = keep key (Max (3 * d + 2)) in
      let y = keep key (Max (3 * d + 1)) in
      let rest = map (keep key) (flat_map kept_for aggs) in
      let t = two_at pre rest q x y e in
      let row = pre ++ (x ∷ y ∷ rest) in
      ((at_more row added q x t.0, at_more row added (q + 1) y t.1), kept_step pre rest added q key aggs x y (kept_at (pre ++ (x ∷ y ∷ [])) added (q + 2) key aggs (omega (arith, e, length-append pre (x ∷ y ∷ [])))))
  kept_at pre added q key (agg.Max d ∷ aggs) e =
      let x = keep key (Min (3 * d)) in
      let y = keep key (Min (3 * d + 1)) in
      let rest = map (keep key) (flat_map kept_for aggs) in
      let t = two_at pre rest q x y e in
      let row = pre ++ (x ∷ y ∷ rest) in
      ((at_more row added q x t.0, at_more row added (q + 1) y t.1), kept_step pre rest added q key aggs x y (kept_at (pre ++ (x ∷ y ∷ [])) added (q + 2) key aggs (omega (arith, e, length-append pre (x ∷ y ∷ [])))))

  -- a kept column reads that column of the rows that belong
  module _ (key : List Value) (d : ℕ) (here : d < c) where
    abbrev belonging : Bounded
    belonging = filter (belongs_to key) rows

    column_ends : (r : RangeRow) → IsRangeRow by.ks r → Ends rl rs rh (group.wide by r) (3 * d) (range_at d r)
    column_ends r v =
        ends_at rl rs rh (group.wide by r) 0 d (3 * d) r.cells (cell r.cells d) (group.wide_cells by r v)
        (at_own r.cells d (certain (value.Int (pos 0))) (omega (arith, here, cells_length IsRangeOf by.ks r.cells v.cells))) (let e : 3 * d ≡ 0 + 3 * d = omega arith in e)

    kept_column : (i : ℕ) (f : RangeRow → Value) → ((r : RangeRow) → IsRangeRow by.ks r → At (group.wide by r) i (f r)) → map (λ row. value_at row i) (map (group.wide by) belonging) ≡ map f belonging
    kept_column i f at =
        map-map (group.wide by) (λ row. value_at row i) belonging
        ∙ map_valid (IsRangeRow by.ks) (λ r. value_at (group.wide by r) i) f belonging (all_filter (IsRangeRow by.ks) (belongs_to key) rows ok)
        (λ r v. ap (λ o. unwrap_or o (value.Int (pos 0))) (at r v))

    pub greatest_hi : keep key (Max (3 * d + 2)) ≡ greatest (map (λ r. (range_at d r).hi) belonging)
    greatest_hi = ap greatest (kept_column (3 * d + 2) (λ r. (range_at d r).hi) (λ r v. (column_ends r v).hi))

    pub greatest_sg : keep key (Max (3 * d + 1)) ≡ greatest (map (λ r. (range_at d r).sg) belonging)
    greatest_sg = ap greatest (kept_column (3 * d + 1) (λ r. (range_at d r).sg) (λ r v. (column_ends r v).sg))

    pub least_lo : keep key (Min (3 * d)) ≡ least (map (λ r. (range_at d r).lo) belonging)
    least_lo = ap least (kept_column (3 * d) (λ r. (range_at d r).lo) (λ r v. (column_ends r v).lo))

    pub least_sg : keep key (Min (3 * d + 1)) ≡ least (map (λ r. (range_at d r).sg) belonging)
    least_sg = ap least (kept_column (3 * d + 1) (λ r. (range_at d r).sg) (λ r v. (column_ends r v).sg))

  -- kept columns stay while columns are added
  pub kept_more : (row more : List Value) (q : ℕ) (key : List Value) (aggs : List Agg) → KeptAt row q key aggs → KeptAt (row ++ more) q key aggs
  kept_more row more q key [] h = tt
  kept_more row more q key (agg.Sum d ∷ aggs) h = kept_more row more q key aggs h
  kept_more row more q key (agg.Min d ∷ aggs) h = ((at_more row more q _ h.0.0, at_more row more (q + 1) _ h.0.1), kept_more row more (q + 2) key aggs h.1)
  kept_more row more q key (agg.Max d ∷ aggs) h = ((at_more row more q _ h.0.0, at_more row more (q + 1) _ h.0.1), kept_more row more (q + 2) key aggs h.1)

  -- what the tests and the weights say of a pair
  abbrev pub fold_sure : List Value × Fold → Bool
  fold_sure s = all_certain (folds_of.spans by s.1.key) && all_certain (group_at s.0).box

  abbrev pub fold_belongs : List Value × Fold → Bool
  fold_belongs s = same_row s.0 (guesses (folds_of.spans by s.1.key))

  abbrev pub test_values : List Value × Fold → List Value
  test_values s = value.Flag (fold_sure s) ∷ value.Flag (fold_belongs s) ∷ []

  abbrev pub sure_copy : List Value × Fold → Bool
  sure_copy s = fold_sure s && folds_of.sure_of by s.1.key

  abbrev pub guessed_copy : List Value × Fold → Bool
  guessed_copy s = fold_belongs s && folds_of.guess_of by s.1.key

  abbrev pub weight_values : List Value × Fold → List Value
  weight_values s = value.Flag (sure_copy s) ∷ value.Flag (guessed_copy s) ∷ []

  -- all that is added to a joined row
  abbrev pub all_values : List Agg → List Value × Fold → List Value
  all_values aggs s = test_values s ++ (weight_values s ++ values aggs s)

  module _ (s : List Value × Fold) (v : IsPair s) where
    -- the rows of the fold are alike, and there is one
    abbrev Alike : RangeRow → Type 0
    Alike r = folds_of.Same by s.1.key r

    all_alike : AllByRecursion Alike s.1.rows
    all_alike = v.1.same

    some_row : 0 < length s.1.rows
    some_row = subst (λ rs. 0 < length rs) (sym v.1.is) (omega arith)

    sure_is : (r : RangeRow) → Alike r → is_sure (s.0, r) ≡ fold_sure s
    sure_is r h = ap (λ xs. all_certain xs && all_certain (group_at s.0).box) (sym h.ranges)

    belongs_is : (r : RangeRow) → Alike r → belongs_to s.0 r ≡ fold_belongs s
    belongs_is r h = ap (λ xs. same_row s.0 (guesses xs)) (sym h.ranges)

    sure_copy_is : (r : RangeRow) → Alike r → is_sure_copy (s.0, r) ≡ sure_copy s
    sure_copy_is r h = λ i. sure_is r h i && sym h.sure i

    guessed_copy_is : (r : RangeRow) → Alike r → is_guessed_copy (s.0, r) ≡ guessed_copy s
    guessed_copy_is r h = λ i. belongs_is r h i && sym h.guess i

    abbrev pub row : List Value
    row = Joined s

    abbrev pub tested : List Value
    tested = row ++ test_values s

    abbrev pub weighed : List Value
    weighed = tested ++ weight_values s

    pub row_long : length row ≡ t
    row_long =
        let front_long = second.box_row_long by more folded rows ok s.0 v.0 in
        let long = key_long by s.1 v.1 in
        let fives_long = folds_of.fives_long folded s.1.rows in
        omega (arith, length-append (second.box_row by more folded rows ok s.0) (fold_row by folded s.1), front_long, length-append s.1.key (folds_of.all_fold_values folded s.1.rows), long, fives_long)

    tested_long : length tested ≡ t + 2
    tested_long = omega (arith, length-append row (test_values s), row_long)

    pub keys : EndsOfAll rl rs rh row b (folds_of.spans by s.1.key)
    keys = second.keys_at by more folded rows ok s v

    sure_has_it : Has row (And (all_sure b by.k) (all_sure 0 by.k)) (value.Flag (fold_sure s))
    sure_has_it =
        let p = sure_has row b by.k (folds_of.spans by s.1.key) (spans_long by s.1 v.1) keys in
        let q = sure_has row 0 by.k (second.box by more folded rows ok s.0) (second.box_long by more folded rows ok s.0 v.0) (second.box_at by more folded rows ok s) in
        λ more. λ i. on_values.and (p more i) (q more i)

    belongs_has_it : Has row (same_guesses 0 b by.k) (value.Flag (fold_belongs s))
    belongs_has_it =
        let box = second.box by more folded rows ok s.0 in
        let p = same_has row 0 b by.k box (folds_of.spans by s.1.key) (second.box_long by more folded rows ok s.0 v.0) (spans_long by s.1 v.1) (second.box_at by more folded rows ok s) keys in
        λ added. p added ∙ (λ i. value.Flag (same_row (second.box_guess by more folded rows ok s.0 v.0 i) (guesses (folds_of.spans by s.1.key))))

    -- the tests have their values
    pub tests_mean : AllMean reading row (plans.tests places) (test_values s)
    tests_mean = ((λ more. ap Some (sure_has_it more)), ((λ more. ap Some (belongs_has_it more)), tt))

    sure_at : At tested t (value.Flag (fold_sure s))
    sure_at = at_past row (test_values s) 0 t _ (omega (arith, row_long)) refl

    belongs_at : At tested (t + 1) (value.Flag (fold_belongs s))
    belongs_at = at_past row (test_values s) 1 (t + 1) _ (omega (arith, row_long)) refl

    -- the tests of the fold
    flags_at : At row (b + 3 * by.k) (value.Flag (folds_of.sure_of by s.1.key)) × At row (b + 3 * by.k + 1) (value.Flag (folds_of.guess_of by s.1.key))
    flags_at =
        let box_row = second.box_row by more folded rows ok s.0 in
        let cells = encode_cells (folds_of.spans by s.1.key) in
        let behind = second.behind_keys by more folded rows ok s.1 in
        let front_long = second.box_row_long by more folded rows ok s.0 v.0 in
        let cells_long : length cells ≡ 3 * by.k = all_ends_long rl rs rh (folds_of.spans by s.1.key) ∙ ap (λ m. 3 * m) (spans_long by s.1 v.1) in
        let both_long = length-append box_row cells in
        let whole : (box_row ++ cells) ++ behind ≡ row = append_assoc box_row cells behind ∙ ap (λ f. box_row ++ f) (sym (second.fold_row_is by more folded rows ok s.1 v.1)) in
        subst (λ r. At r (b + 3 * by.k) (value.Flag (folds_of.sure_of by s.1.key)) × At r (b + 3 * by.k + 1) (value.Flag (folds_of.guess_of by s.1.key))) whole
        (at_past (box_row ++ cells) behind 0 (b + 3 * by.k) _ (omega (arith, both_long, front_long, cells_long)) refl, at_past (box_row ++ cells) behind 1 (b + 3 * by.k + 1) _ (omega (arith, both_long, front_long, cells_long)) refl)

    -- and so have the weights
    pub weights_mean : AllMean reading tested (plans.weights places) (weight_values s)
    weights_mean =
        let sure = column_has tested t _ sure_at in
        let same = column_has tested (t + 1) _ belongs_at in
        let has_sure = column_has tested (b + 3 * by.k) _ (at_more row (test_values s) (b + 3 * by.k) _ flags_at.0) in
        let has_guess = column_has tested (b + 3 * by.k + 1) _ (at_more row (test_values s) (b + 3 * by.k + 1) _ flags_at.1) in (
          (λ more. λ i. Some (on_values.and (sure more i) (has_sure more i))),
          ((λ more. λ i. Some (on_values.and (same more i) (has_guess more i))), tt),
        )

    sure_column : Has weighed (plans.is_sure places) (value.Flag (fold_sure s))
    sure_column = column_has weighed t _ (at_more tested (weight_values s) t _ sure_at)

    belongs_column : Has weighed (plans.belongs places) (value.Flag (fold_belongs s))
    belongs_column = column_has weighed (t + 1) _ (at_more tested (weight_values s) (t + 1) _ belongs_at)

    surely_is : Has weighed (plans.surely places) (value.Flag (sure_copy s))
    surely_is = column_has weighed (t + 2) _ (at_past tested (weight_values s) 0 (t + 2) _ (omega (arith, tested_long)) refl)

    guessed_is : Has weighed (plans.guessed places) (value.Flag (guessed_copy s))
    guessed_is = column_has weighed (t + 3) _ (at_past tested (weight_values s) 1 (t + 3) _ (omega (arith, tested_long)) refl)

    -- the values of the fold
    abbrev FivesAt : List Value → ℕ → List Agg → Type 0
    FivesAt r y aggs = ValuesAt r y s.1.rows aggs

    pub fives : FivesAt weighed (b + 3 * by.k + 2) folded
    fives =
        let box_row = second.box_row by more folded rows ok s.0 in
        let values_of = folds_of.all_fold_values folded s.1.rows in
        let front_long = second.box_row_long by more folded rows ok s.0 v.0 in
        let long = key_long by s.1 v.1 in
        values_more tested (weight_values s) (b + 3 * by.k + 2) s.1.rows folded
        (values_more row (test_values s) (b + 3 * by.k + 2) s.1.rows folded
        (subst (λ r. FivesAt r (b + 3 * by.k + 2) folded) (append_assoc box_row s.1.key values_of)
        (folds_of.fold_values_at (box_row ++ s.1.key) (b + 3 * by.k + 2) s.1.rows folded (omega (arith, length-append box_row s.1.key, front_long, long)))))

    -- a sum for all members with one for certain members alone
    with_sure_has : (y z : ℕ) (f g h : RangeRow → ℤ) → At weighed y (summed f s.1.rows) → At weighed z (summed g s.1.rows) → ((r : RangeRow) → h r ≡ (if is_sure (s.0, r) then f r +ℤ g r else f r)) → Has weighed (plans.with_sure places y z) (summed h s.1.rows)
    with_sure_has y z f g h p q is =
        let all = column_has weighed y _ p in
        let sure = column_has weighed z _ q in
        λ more.
        (λ i. on_values.choose (sure_column more i) (on_values.add (all more i) (sure more i)) (all more i))
        ∙ (sum_if_sure (λ r. is_sure (s.0, r)) f g h is (fold_sure s) s.1.rows (all_from Alike (λ r. is_sure (s.0, r) ≡ fold_sure s) s.1.rows sure_is all_alike))

    -- The columns of the aggregates have their values.
    pub members_mean : (q y : ℕ) (aggs : List Agg) → KeptAt weighed q s.0 aggs → FivesAt weighed y aggs → AllMean reading weighed (each_member_columns places q y aggs) (values aggs s)
    members_mean q y [] kept five = (
      (λ more. (λ i. Some (on_values.choose (surely_is more i) (value.Int (pos 1)) (value.Int (pos 0)))) ∙ ap Some (flag_counted (sure_copy s) ∙ sym (greatest_all (λ r. counted (is_sure_copy (s.0, r))) (counted (sure_copy s)) s.1.rows some_row (all_from Alike (λ r. counted (is_sure_copy (s.0, r)) ≡ counted (sure_copy s)) s.1.rows (λ r h. ap counted (sure_copy_is r h)) all_alike)))),
      tt,
    )
    members_mean q y (agg.Sum d ∷ aggs) kept five =
        let g = group_at s.0 in
        let guess = column_has weighed (y + 1) _ five.0.1 in (
          (λ more. ap Some (with_sure_has y (y + 3) (low_term d) (sure_low_term d) (lower_term g d) five.0.0 five.0.3 (λ r. lower_is g d r) more)),
          (
            (λ more.
                (λ i. Some (on_values.choose (belongs_column more i) (guess more i) (value.Int (pos 0))))
                ∙ ap Some (summed_if (belongs_to s.0) (guess_term d) (fold_belongs s) s.1.rows (all_from Alike (λ r. belongs_to s.0 r ≡ fold_belongs s) s.1.rows belongs_is all_alike))),
            (
              (λ more. ap Some (with_sure_has (y + 2) (y + 4) (high_term d) (sure_high_term d) (upper_term g d) five.0.2 five.0.4 (λ r. upper_is g d r) more)),
              ((λ more. refl), members_mean q (y + 5) aggs kept five.1),
            ),
          ),
        )
    members_mean q y (agg.Min d ∷ aggs) kept five =
        let a = column_has weighed y _ five.0.0 in
        let b2 = column_has weighed (y + 1) _ five.0.1 in
        let b3 = column_has weighed (y + 2) _ five.0.2 in
        let b4 = column_has weighed (y + 3) _ five.0.3 in
        let g = column_has weighed (q + 1) (keep s.0 (Max (3 * d + 1))) kept.0.1 in
        let h = column_has weighed q (keep s.0 (Max (3 * d + 2))) kept.0.0 in (
          (λ more. ap Some (a more)),
          (
            (λ more.
                (λ i. Some (on_values.choose (guessed_is more i) (b2 more i) (g more i)))
                ∙ ap Some (least_if_all (λ r. is_guessed_copy (s.0, r)) (λ r. (range_at d r).sg) (keep s.0 (Max (3 * d + 1))) (guessed_copy s) s.1.rows some_row (all_from Alike (λ r. is_guessed_copy (s.0, r) ≡ guessed_copy s) s.1.rows guessed_copy_is all_alike))),
            (
              (λ more.
                  (λ i. Some (on_values.choose (surely_is more i) (b3 more i) (h more i)))
                  ∙ ap Some (least_if_all (λ r. is_sure_copy (s.0, r)) (λ r. (range_at d r).hi) (keep s.0 (Max (3 * d + 2))) (sure_copy s) s.1.rows some_row (all_from Alike (λ r. is_sure_copy (s.0, r) ≡ sure_copy s) s.1.rows sure_copy_is all_alike))),
              ((λ more. ap Some (b4 more)), members_mean (q + 2) (y + 5) aggs kept.1 five.1),
            ),
          ),
        )
    members_mean q y (agg.Max d ∷ aggs) kept five =
        let a = column_has weighed y _ five.0.0 in
        let b2 = column_has weighed (y + 1) _ five.0.1 in
        let b3 = column_has weighed (y + 2) _ five.0.2 in
        let b4 = column_has weighed (y + 3) _ five.0.3 in
        let g = column_has weighed (q + 1) (keep s.0 (Min (3 * d + 1))) kept.0.1 in
        let h = column_has weighed q (keep s.0 (Min (3 * d))) kept.0.0 in (
          (λ more. ap Some (a more)),
          (
            (λ more.
                (λ i. Some (on_values.choose (guessed_is more i) (b2 more i) (g more i)))
                ∙ ap Some (greatest_if_all (λ r. is_guessed_copy (s.0, r)) (λ r. (range_at d r).sg) (keep s.0 (Min (3 * d + 1))) (guessed_copy s) s.1.rows some_row (all_from Alike (λ r. is_guessed_copy (s.0, r) ≡ guessed_copy s) s.1.rows guessed_copy_is all_alike))),
            (
              (λ more.
                  (λ i. Some (on_values.choose (surely_is more i) (b3 more i) (h more i)))
                  ∙ ap Some (greatest_if_all (λ r. is_sure_copy (s.0, r)) (λ r. (range_at d r).lo) (keep s.0 (Min (3 * d))) (sure_copy s) s.1.rows some_row (all_from Alike (λ r. is_sure_copy (s.0, r) ≡ sure_copy s) s.1.rows sure_copy_is all_alike))),
              ((λ more. ap Some (b4 more)), members_mean (q + 2) (y + 5) aggs kept.1 five.1),
            ),
          ),
        )

    -- All that is added to a joined row.
    pub members_added : (q : ℕ) → KeptAt row q s.0 folded → add_columns reading (all_member_columns places q folded) row ≡ Some (row ++ all_values folded s)
    members_added q kept =
        let each = each_member_columns places q (b + 3 * by.k + 2) folded in
        let there = kept_more tested (weight_values s) q s.0 folded (kept_more row (test_values s) q s.0 folded kept) in
        then_adds reading (plans.tests places) (plans.weights places ++ each) row tested (Some (row ++ all_values folded s)) (adds reading row (plans.tests places) (test_values s) tests_mean)
        (then_adds reading (plans.weights places) each tested weighed (Some (row ++ all_values folded s)) (adds reading tested (plans.weights places) (weight_values s) weights_mean)
        (adds reading weighed each (values folded s) (members_mean q (b + 3 * by.k + 2) folded there fives)
        ∙ ap Some (append_assoc tested (weight_values s) (values folded s) ∙ append_assoc row (test_values s) (weight_values s ++ values folded s))))
