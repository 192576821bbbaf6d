-- The rows of the folds: for each list of key ranges and tests, what the rows that have them give to each aggregate; or
-- for each row what it gives.
use Rattle.std.specs.Prelude.{◌≡◌, ℕ, ◌+◌, ◌*◌, ◌<◌, Bool, true, List, [], ◌∷◌, ◌++◌, length, map, flat_map, ℤ, pos, ◌+ℤ◌, nat_le, Some, unwrap_or}
use Rattle.std.specs.List.{AllByRecursion}
use Rattle.std.proofs.Common.{arith, refl, sym, ◌∙◌, ap, subst, append_assoc}
use Rattle.std.proofs.lemmas.Int.{ints}
use Rattle.std.proofs.lemmas.List.{length-append}
use Rattle.au_value.specs.declared.value.Value.{Value}
use Rattle.au_value.specs.declared.value.Value.TheVariants as value
use Rattle.au_value.specs.Order.{below}
use Rattle.au_value.specs.Ranges.{Span, IsRangeOf, certain}
use Rattle.au_expr.specs.Ordinary as on_values
use Rattle.au_expr.specs.Ordinary.{is_true, number}
use Rattle.au_algebra.specs.declared.query.Agg.{Agg}
use Rattle.au_algebra.specs.declared.query.Agg.TheVariants as agg
use Rattle.au_algebra.specs.Lists.{same_row, copies, int_sum, least, greatest, value_at}
use Rattle.au_algebra.specs.Ordinary.{Rows}
use Rattle.au_algebra.specs.Bounded.{RangeRow, Bounded, range_at, guess_term}
use Rattle.au_algebra.specs.Laws.{IsRangeRow, IsRelation}
use Rattle.au_algebra.proofs.Copies.{same_row_is}
use Rattle.au_algebra.proofs.Each.{all_filter, all_from}
use Rattle.au_plain.specs.declared.plan.PAgg.{PAgg}
use Rattle.au_plain.specs.declared.plan.PAgg.TheVariants.{Sum}
use Rattle.au_plain.specs.Plans.{PlanTree, extend_all}
use Rattle.au_plain.specs.Meaning.{plain_rows, kept, plain_aggregate, plain_group}
use Rattle.au_plain.specs.PlanNumbers.{magnitudes, group_numbers}
use Rattle.au_encode.specs.Encode.{encode_row, encode_cells, decode_cells}
use Rattle.au_encode.proofs.Decoded.{cells_length}
use Rattle.au_rwexpr.specs.Adding.{grow}
use Rattle.au_rwexpr.specs.Cells.{cell_places, run}
use Rattle.au_rwexpr.specs.Flatten.{lo, hi}
use Rattle.au_rwexpr.proofs.Coded.{rl, rs, rh, cl, cg, cm}
use Rattle.au_rwexpr.proofs.Columns.{AllMean, adds}
use Rattle.au_rwexpr.proofs.Flags.{below_zero}
use Rattle.au_rwexpr.proofs.Gives.{GivesEncoded, grow_is, rows-extend_all, map-map, map_valid, same_map}
use Rattle.au_rwexpr.proofs.OnValues.{reading, lo_has, sg_has, hi_has, column_has}
use Rattle.au_rwexpr.proofs.PlanNumbersOf.{all_passing}
use Rattle.au_rwexpr.proofs.Picks.{Picks, kept_are, picks_more, pick_cells, coded_cells, coded_triple, coded_long, all_ends_long}
use Rattle.au_rwexpr.proofs.Places.{At, at_more, at_past, Ends, ends_at, EndsOfAll, all_ends_more}
use Rattle.au_combine.proofs.BoxPlaces.{at_own, run_picks}
use Rattle.au_combine.proofs.BoxRows.{cell}
use Rattle.au_combine.proofs.Grouping as grouping
use Rattle.au_combine.proofs.Grouping.{group_made, numbers_made, all_occur, some_with, map_groups}
use Rattle.au_rwgroup.specs.declared.folding.Folding.TheVariants as folding
use Rattle.au_rwgroup.specs.Folds.{fold_aggs, fold_columns, fold_places, all_fold_terms, folds}
use Rattle.au_rwgroup.proofs.KeyReading.{KeyReading}
use Rattle.au_rwgroup.proofs.ColumnsThere.{IsOn}
use Rattle.au_rwgroup.proofs.Partition.{keys, share}
use Rattle.au_rwgroup.proofs.Signed.{signed_number, below_has, above_has}

-- what a row adds to the ends of a sum as a member that is not certain, and what comes besides where it is
abbrev pub low_term : ℕ → RangeRow → ℤ
low_term d r = signed_number r.annot.most 0 (range_at d r).lo

abbrev pub high_term : ℕ → RangeRow → ℤ
high_term d r = signed_number 0 r.annot.most (range_at d r).hi

abbrev pub sure_low_term : ℕ → RangeRow → ℤ
sure_low_term d r = signed_number 0 r.annot.least (range_at d r).lo

abbrev pub sure_high_term : ℕ → RangeRow → ℤ
sure_high_term d r = signed_number r.annot.least 0 (range_at d r).hi

-- five values for an aggregate over a row
abbrev pub term_values : Agg → RangeRow → List Value
term_values (agg.Sum d) r =
    value.Int (low_term d r)
    ∷ value.Int (guess_term d r)
    ∷ value.Int (high_term d r)
    ∷ value.Int (sure_low_term d r)
    ∷ value.Int (sure_high_term d r)
    ∷ []
term_values (agg.Min d) r = let x = range_at d r in x.lo ∷ x.sg ∷ x.hi ∷ x.hi ∷ value.Int (pos 0) ∷ []
term_values (agg.Max d) r = let x = range_at d r in x.hi ∷ x.sg ∷ x.lo ∷ x.lo ∷ value.Int (pos 0) ∷ []

abbrev pub all_term_values : List Agg → RangeRow → List Value
all_term_values [] r = []
all_term_values (a ∷ aggs) r = term_values a r ++ all_term_values aggs r

-- the sum of a term over rows
abbrev pub summed : (RangeRow → ℤ) → Bounded → Value
summed f rows = value.Int (int_sum (map f rows))

-- five values for an aggregate over the rows of a fold
abbrev pub fold_values : Agg → Bounded → List Value
fold_values (agg.Sum d) rows =
    summed (low_term d) rows
    ∷ summed (guess_term d) rows
    ∷ summed (high_term d) rows
    ∷ summed (sure_low_term d) rows
    ∷ summed (sure_high_term d) rows
    ∷ []
fold_values (agg.Min d) rows =
    least (map (λ r. (range_at d r).lo) rows)
    ∷ least (map (λ r. (range_at d r).sg) rows)
    ∷ least (map (λ r. (range_at d r).hi) rows)
    ∷ greatest (map (λ r. (range_at d r).hi) rows)
    ∷ summed (λ r. pos 0) rows
    ∷ []
fold_values (agg.Max d) rows =
    greatest (map (λ r. (range_at d r).hi) rows)
    ∷ greatest (map (λ r. (range_at d r).sg) rows)
    ∷ greatest (map (λ r. (range_at d r).lo) rows)
    ∷ least (map (λ r. (range_at d r).lo) rows)
    ∷ summed (λ r. pos 0) rows
    ∷ []

abbrev pub all_fold_values : List Agg → Bounded → List Value
all_fold_values [] rows = []
all_fold_values (a ∷ aggs) rows = fold_values a rows ++ all_fold_values aggs rows

-- five values by their places
abbrev pub FiveAt : List Value → ℕ → List Value → Type 0
FiveAt row m (a ∷ b ∷ c ∷ d ∷ e ∷ []) = At row m a × At row (m + 1) b × At row (m + 2) c × At row (m + 3) d × At row (m + 4) e
FiveAt row m vs = ⊥

abbrev pub FivesAt : List Value → ℕ → List (List Value) → Type 0
FivesAt row m [] = Unit {0}
FivesAt row m (vs ∷ rest) = FiveAt row m vs × FivesAt row (m + 5) rest

pub five_more : (pre rest : List Value) (m : ℕ) (others : List (List Value)) (a b c d e : Value) → length pre ≡ m → ((more : List Value) → length more ≡ m + 5 → FivesAt (more ++ rest) (m + 5) others) → FivesAt (pre ++ (a ∷ b ∷ c ∷ d ∷ e ∷ rest)) m ((a ∷ b ∷ c ∷ d ∷ e ∷ []) ∷ others)
five_more pre rest m others a b c d e long to =
    let five = a ∷ b ∷ c ∷ d ∷ e ∷ [] in
    let tail = a ∷ b ∷ c ∷ d ∷ e ∷ rest in (
      (
        at_past pre tail 0 m a (omega (arith, long)) refl,
        at_past pre tail 1 (m + 1) b (omega (arith, long)) refl,
        at_past pre tail 2 (m + 2) c (omega (arith, long)) refl,
        at_past pre tail 3 (m + 3) d (omega (arith, long)) refl,
        at_past pre tail 4 (m + 4) e (omega (arith, long)) refl,
      ),
      subst (λ row. FivesAt row (m + 5) others) (append_assoc pre five rest) (to (pre ++ five) (omega (arith, long, length-append pre five))),
    )

-- the values of a fold behind any front
pub fives_long : (bs : List Agg) (rows : Bounded) → length (all_fold_values bs rows) ≡ 5 * length bs
fives_long [] rows = refl
fives_long (agg.Sum d ∷ bs) rows = omega (arith, fives_long bs rows)
fives_long (agg.Min d ∷ bs) rows = omega (arith, fives_long bs rows)
fives_long (agg.Max d ∷ bs) rows = omega (arith, fives_long bs rows)

abbrev pub ValuesAt : List Value → ℕ → Bounded → List Agg → Type 0
ValuesAt row m rows bs = FivesAt row m (map (λ a. fold_values a rows) bs)

pub fold_values_at : (pre : List Value) (m : ℕ) (rows : Bounded) (bs : List Agg) → length pre ≡ m → ValuesAt (pre ++ all_fold_values bs rows) m rows bs
fold_values_at pre m rows [] e = tt
fold_values_at pre m rows (agg.Sum d ∷ bs) e =
    five_more pre (all_fold_values bs rows) m (map (λ a. fold_values a rows) bs) (summed (low_term d) rows) (summed (guess_term d) rows) (summed (high_term d) rows) (summed (sure_low_term d) rows) (summed (sure_high_term d) rows) e
    (λ more long. fold_values_at more (m + 5) rows bs long)
fold_values_at pre m rows (agg.Min d ∷ bs) e =
    five_more pre (all_fold_values bs rows) m (map (λ a. fold_values a rows) bs) (least (map (λ r. (range_at d r).lo) rows)) (least (map (λ r. (range_at d r).sg) rows)) (least (map (λ r. (range_at d r).hi) rows)) (greatest (map (λ r. (range_at d r).hi) rows)) (summed (λ r. pos 0) rows) e
    (λ more long. fold_values_at more (m + 5) rows bs long)
fold_values_at pre m rows (agg.Max d ∷ bs) e =
    five_more pre (all_fold_values bs rows) m (map (λ a. fold_values a rows) bs) (greatest (map (λ r. (range_at d r).hi) rows)) (greatest (map (λ r. (range_at d r).sg) rows)) (greatest (map (λ r. (range_at d r).lo) rows)) (least (map (λ r. (range_at d r).lo) rows)) (summed (λ r. pos 0) rows) e
    (λ more long. fold_values_at more (m + 5) rows bs long)

-- they stay while columns are added
pub values_more : (row more : List Value) (m : ℕ) (rows : Bounded) (bs : List Agg) → ValuesAt row m rows bs → ValuesAt (row ++ more) m rows bs
values_more row more m rows [] h = tt
values_more row more m rows (agg.Sum d ∷ bs) h = ((at_more row more m _ h.0.0, at_more row more (m + 1) _ h.0.1, at_more row more (m + 2) _ h.0.2, at_more row more (m + 3) _ h.0.3, at_more row more (m + 4) _ h.0.4), values_more row more (m + 5) rows bs h.1)
values_more row more m rows (agg.Min d ∷ bs) h = ((at_more row more m _ h.0.0, at_more row more (m + 1) _ h.0.1, at_more row more (m + 2) _ h.0.2, at_more row more (m + 3) _ h.0.3, at_more row more (m + 4) _ h.0.4), values_more row more (m + 5) rows bs h.1)
values_more row more m rows (agg.Max d ∷ bs) h = ((at_more row more m _ h.0.0, at_more row more (m + 1) _ h.0.1, at_more row more (m + 2) _ h.0.2, at_more row more (m + 3) _ h.0.3, at_more row more (m + 4) _ h.0.4), values_more row more (m + 5) rows bs h.1)

-- the values of a row, and those of a fold of it alone
terms_long : (bs : List Agg) (r : RangeRow) → length (all_term_values bs r) ≡ 5 * length bs
terms_long [] r = refl
terms_long (agg.Sum d ∷ bs) r = omega (arith, terms_long bs r)
terms_long (agg.Min d ∷ bs) r = omega (arith, terms_long bs r)
terms_long (agg.Max d ∷ bs) r = omega (arith, terms_long bs r)

alone : (z : ℤ) → value.Int z ≡ value.Int (z +ℤ pos 0)
alone z = ap value.Int (let e : z ≡ z +ℤ pos 0 = omega (arith, ints) in e)

values_alone : (bs : List Agg) (r : RangeRow) → all_term_values bs r ≡ all_fold_values bs (r ∷ [])
values_alone [] r = refl
values_alone (agg.Sum d ∷ bs) r =
    λ i. alone (low_term d r) i ∷ alone (guess_term d r) i ∷ alone (high_term d r) i ∷ alone (sure_low_term d r) i ∷ alone (sure_high_term d r) i ∷ values_alone bs r i
values_alone (agg.Min d ∷ bs) r =
    let x = range_at d r in λ i. x.lo ∷ x.sg ∷ x.hi ∷ x.hi ∷ value.Int (pos 0) ∷ values_alone bs r i
values_alone (agg.Max d ∷ bs) r =
    let x = range_at d r in λ i. x.hi ∷ x.sg ∷ x.lo ∷ x.lo ∷ value.Int (pos 0) ∷ values_alone bs r i

-- the last columns of a row
pub last_picks : {A : Type 0} (pre xs : List A) (i m : ℕ) → length pre ≡ i → length xs ≡ m → Picks (pre ++ xs) (run i m) xs
last_picks {A = A} pre xs i m e l =
    subst (λ k. Picks (pre ++ xs) (run i k) xs) l
    (subst (λ ys. Picks (pre ++ ys) (run i (length xs)) ys) (same_map xs) (run_picks (λ (x : A). x) pre xs i e))

-- cells that were coded come back from behind which others stand
pub cells_again : (xs : List Span) (more : List Value) → decode_cells (length xs) (encode_cells xs ++ more) ≡ xs
cells_again [] more = refl
cells_again (x ∷ xs) more = λ i. x ∷ cells_again xs more i

module _ (by : KeyReading) where
  abbrev c : ℕ
  c = length by.ks

  abbrev t : ℕ
  t = 3 * c

  abbrev n : ℕ
  n = 3 * c + 5

  -- whether a row surely has a copy, and whether it has one in the guess world
  abbrev pub has_sure : RangeRow → Bool
  has_sure r = nat_le 1 r.annot.least

  abbrev pub has_guess : RangeRow → Bool
  has_guess r = nat_le 1 r.annot.guess

  abbrev pub flags : Bool → Bool → List Value
  flags sure guess = value.Flag sure ∷ value.Flag guess ∷ []

  -- the key of a row's fold
  abbrev pub fold_key : RangeRow → List Value
  fold_key r = encode_cells (by.keys r.cells) ++ flags (has_sure r) (has_guess r)

  -- the key ranges of a fold, and its tests
  abbrev pub spans : List Value → List Span
  spans key = decode_cells by.k key

  abbrev pub sure_of : List Value → Bool
  sure_of key = is_true (value_at key (3 * by.k))

  abbrev pub guess_of : List Value → Bool
  guess_of key = is_true (value_at key (3 * by.k + 1))

  -- the row of which the key is
  pub record Same (key : List Value) (r : RangeRow) : Type 0 where
    pub row : IsRangeRow by.ks r
    pub ranges : spans key ≡ by.keys r.cells
    pub sure : sure_of key ≡ has_sure r
    pub guess : guess_of key ≡ has_guess r

  keys_long : (r : RangeRow) → IsRangeRow by.ks r → length (encode_cells (by.keys r.cells)) ≡ 3 * by.k
  keys_long r v = all_ends_long rl rs rh (by.keys r.cells) ∙ ap (λ m. 3 * m) (by.long r v)

  pub same_itself : (r : RangeRow) → IsRangeRow by.ks r → Same (fold_key r) r
  same_itself r v =
      let both = flags (has_sure r) (has_guess r) in
      let cells = encode_cells (by.keys r.cells) in
      let long = keys_long r v in
      let first : At (fold_key r) (3 * by.k) (value.Flag (has_sure r)) = at_past cells both 0 (3 * by.k) _ (omega (arith, long)) refl in
      let second : At (fold_key r) (3 * by.k + 1) (value.Flag (has_guess r)) = at_past cells both 1 (3 * by.k + 1) _ (omega (arith, long)) refl in
      record {
        row = v;
        ranges = ap (λ m. decode_cells m (fold_key r)) (sym (by.long r v)) ∙ cells_again (by.keys r.cells) both;
        sure = ap (λ o. is_true (unwrap_or o (value.Int (pos 0)))) first;
        guess = ap (λ o. is_true (unwrap_or o (value.Int (pos 0)))) second;
      }

  pub same_as : (key : List Value) (r : RangeRow) → IsRangeRow by.ks r → same_row key (fold_key r) ≡ true → Same key r
  same_as key r v e = subst (λ k. Same k r) (sym (same_row_is key (fold_key r) e)) (same_itself r v)

  module _ (rows : Bounded) (ok : IsRelation by.ks rows) where
    -- the keys of rows, and the rows with one
    abbrev pub fold_keys : Rows
    fold_keys = keys fold_key rows

    abbrev pub rows_of : List Value → Bounded
    rows_of key = share fold_key rows key

    -- a key that occurs
    abbrev pub Occurs : List Value → Type 0
    Occurs key = grouping.Some fold_key key rows

    pub all_occurring : AllByRecursion Occurs fold_keys
    all_occurring = all_from (λ key. 0 < copies key (map fold_key rows)) Occurs fold_keys (λ key o. some_with fold_key key rows o) (all_occur fold_key rows)

    -- these rows are of the kinds, and are alike
    pub rows_ok : (key : List Value) → IsRelation by.ks (rows_of key)
    rows_ok key = all_filter (IsRangeRow by.ks) (λ r. same_row key (fold_key r)) rows ok

    pub all_same : (key : List Value) → AllByRecursion (Same key) (rows_of key)
    all_same key = all_passing (IsRangeRow by.ks) (Same key) (λ r. same_row key (fold_key r)) rows ok (λ r v e. same_as key r v e)

    -- and so is the first
    pub first_same : (key : List Value) (some : Occurs key) → Same key some.first
    first_same key some =
        (subst (λ rs. AllByRecursion (Same key) rs) some.is (all_same key)).0

  module _ (aggs : List Agg) where
    -- what is added to a row
    abbrev pub added : RangeRow → List Value
    added r = flags (has_sure r) (has_guess r) ++ all_term_values aggs r

    abbrev pub wide : RangeRow → List Value
    wide r = encode_row r ++ added r

    cells_there : (r : RangeRow) → IsRangeRow by.ks r → EndsOfAll rl rs rh (encode_row r) 0 r.cells
    cells_there r v = coded_cells rl rs rh cl cg cm c r.cells r.annot (cells_length IsRangeOf by.ks r.cells v.cells)

    pub cell_there : (r : RangeRow) → IsRangeRow by.ks r → (d : ℕ) → d < c → Ends rl rs rh (encode_row r) (3 * d) (range_at d r)
    cell_there r v d inside =
        ends_at rl rs rh (encode_row r) 0 d (3 * d) r.cells (cell r.cells d) (cells_there r v)
        (at_own r.cells d (certain (value.Int (pos 0))) (omega (arith, inside, cells_length IsRangeOf by.ks r.cells v.cells))) (let e : 3 * d ≡ 0 + 3 * d = omega arith in e)

    pub counts_there : (r : RangeRow) → IsRangeRow by.ks r → Ends cl cg cm (encode_row r) t r.annot
    counts_there r v = coded_triple rl rs rh cl cg cm c r.cells r.annot (cells_length IsRangeOf by.ks r.cells v.cells)

    -- what the columns hold
    pub terms_mean : (bs : List Agg) → AllByRecursion (IsOn c) bs → (r : RangeRow) → IsRangeRow by.ks r → AllMean reading (encode_row r) (all_fold_terms t bs) (all_term_values bs r)
    terms_mean [] ok r v = tt
    terms_mean (agg.Sum d ∷ bs) ok r v =
        let row = encode_row r in
        let x = range_at d r in
        let e = cell_there r v d ok.0 in
        let w = counts_there r v in
        let l = column_has row t (cl r.annot) w.lo in
        let g = column_has row (t + 1) (cg r.annot) w.sg in
        let m = column_has row (t + 2) (cm r.annot) w.hi in
        let low = lo_has row (3 * d) x e in
        let high = hi_has row (3 * d) x e in (
          (λ more. ap Some (below_has row (hi t) (lo (3 * d)) r.annot.most x.lo m low more)),
          (
            (λ more. λ k. Some (on_values.multiply (g more k) (sg_has row (3 * d) x e more k))),
            (
              (λ more. ap Some (above_has row (hi t) (hi (3 * d)) r.annot.most x.hi m high more)),
              (
                (λ more. ap Some (above_has row (lo t) (lo (3 * d)) r.annot.least x.lo l low more)),
                ((λ more. ap Some (below_has row (lo t) (hi (3 * d)) r.annot.least x.hi l high more)), terms_mean bs ok.1 r v),
              ),
            ),
          ),
        )
    terms_mean (agg.Min d ∷ bs) ok r v =
        let row = encode_row r in
        let x = range_at d r in
        let e = cell_there r v d ok.0 in
        let low = lo_has row (3 * d) x e in
        let high = hi_has row (3 * d) x e in (
          (λ more. ap Some (low more)),
          (
            (λ more. ap Some (sg_has row (3 * d) x e more)),
            ((λ more. ap Some (high more)), ((λ more. ap Some (high more)), ((λ more. refl), terms_mean bs ok.1 r v))),
          ),
        )
    terms_mean (agg.Max d ∷ bs) ok r v =
        let row = encode_row r in
        let x = range_at d r in
        let e = cell_there r v d ok.0 in
        let low = lo_has row (3 * d) x e in
        let high = hi_has row (3 * d) x e in (
          (λ more. ap Some (high more)),
          (
            (λ more. ap Some (sg_has row (3 * d) x e more)),
            ((λ more. ap Some (low more)), ((λ more. ap Some (low more)), ((λ more. refl), terms_mean bs ok.1 r v))),
          ),
        )

    module _ (ok_aggs : AllByRecursion (IsOn c) aggs) where
      pub columns_mean : (r : RangeRow) → IsRangeRow by.ks r → AllMean reading (encode_row r) (fold_columns t aggs) (added r)
      columns_mean r v =
          let row = encode_row r in
          let w = counts_there r v in
          let l = column_has row t (cl r.annot) w.lo in
          let g = column_has row (t + 1) (cg r.annot) w.sg in (
            (λ more. (λ i. Some (value.Flag (below (value.Int (pos 0)) (l more i)))) ∙ ap (λ b. Some (value.Flag b)) (below_zero r.annot.least)),
            (
              (λ more. (λ i. Some (value.Flag (below (value.Int (pos 0)) (g more i)))) ∙ ap (λ b. Some (value.Flag b)) (below_zero r.annot.guess)),
              terms_mean aggs ok_aggs r v,
            ),
          )

      grown : (r : RangeRow) → IsRangeRow by.ks r → grow (fold_columns t aggs) (encode_row r) ≡ wide r
      grown r v =
          let row = encode_row r in grow_is (fold_columns t aggs) row (wide r) (adds reading row (fold_columns t aggs) (added r) (columns_mean r v))

    row_long : (r : RangeRow) → IsRangeRow by.ks r → length (encode_row r) ≡ 3 * c + 3
    row_long r v = coded_long rl rs rh cl cg cm c r.cells r.annot (cells_length IsRangeOf by.ks r.cells v.cells)

    -- the columns by which rows are told apart
    key_picks : (r : RangeRow) → IsRangeRow by.ks r → Picks (wide r) (fold_places c by.k) (fold_key r)
    key_picks r v =
        let row = wide r in
        let long = row_long r v in
        picks_more row (cell_places 0 by.k) ((3 * c + 3) ∷ (3 * c + 4) ∷ []) (encode_cells (by.keys r.cells)) (flags (has_sure r) (has_guess r))
        (pick_cells rl rs rh row 0 by.k (by.keys r.cells) (by.long r v) (by.shifted r v row 0 (all_ends_more rl rs rh (encode_row r) (added r) 0 r.cells (cells_there r v)))) (
          at_past (encode_row r) (added r) 0 (3 * c + 3) _ (omega (arith, long)) refl,
          (at_past (encode_row r) (added r) 1 (3 * c + 4) _ (omega (arith, long)) refl, tt),
        )

    pub same_key : (r : RangeRow) → IsRangeRow by.ks r → kept (fold_places c by.k) (wide r) ≡ fold_key r
    same_key r v = kept_are (wide r) (fold_places c by.k) (fold_key r) (key_picks r v)

    -- these, and then what the row gives
    own_row : (r : RangeRow) → IsRangeRow by.ks r → kept (fold_places c by.k ++ run n (5 * length aggs)) (wide r) ≡ fold_key r ++ all_fold_values aggs (r ∷ [])
    own_row r v =
        let both = flags (has_sure r) (has_guess r) in
        let values = all_term_values aggs r in
        let behind : Picks (wide r) (run n (5 * length aggs)) values =
        subst (λ row. Picks row (run n (5 * length aggs)) values) (append_assoc (encode_row r) both values)
        (last_picks (encode_row r ++ both) values n (5 * length aggs) (omega (arith, row_long r v, length-append (encode_row r) both)) (terms_long aggs r)) in
        kept_are (wide r) (fold_places c by.k ++ run n (5 * length aggs)) (fold_key r ++ values)
        (picks_more (wide r) (fold_places c by.k) (run n (5 * length aggs)) (fold_key r) values (key_picks r v) behind)
        ∙ ap (λ vs. fold_key r ++ vs) (values_alone aggs r)

    -- the values of a row behind any front
    values_at : (pre : List Value) (m : ℕ) (r : RangeRow) (bs : List Agg) → length pre ≡ m → FivesAt (pre ++ all_term_values bs r) m (map (λ a. term_values a r) bs)
    values_at pre m r [] e = tt
    values_at pre m r (agg.Sum d ∷ bs) e =
        five_more pre (all_term_values bs r) m (map (λ a. term_values a r) bs) (value.Int (low_term d r)) (value.Int (guess_term d r)) (value.Int (high_term d r)) (value.Int (sure_low_term d r)) (value.Int (sure_high_term d r)) e
        (λ more long. values_at more (m + 5) r bs long)
    values_at pre m r (agg.Min d ∷ bs) e =
        let x = range_at d r in
        five_more pre (all_term_values bs r) m (map (λ a. term_values a r) bs) x.lo x.sg x.hi x.hi (value.Int (pos 0)) e (λ more long. values_at more (m + 5) r bs long)
    values_at pre m r (agg.Max d ∷ bs) e =
        let x = range_at d r in
        five_more pre (all_term_values bs r) m (map (λ a. term_values a r) bs) x.hi x.sg x.lo x.lo (value.Int (pos 0)) e (λ more long. values_at more (m + 5) r bs long)

    pub wide_at : (r : RangeRow) → IsRangeRow by.ks r → FivesAt (wide r) n (map (λ a. term_values a r) aggs)
    wide_at r v =
        let both = flags (has_sure r) (has_guess r) in
        subst (λ row. FivesAt row n (map (λ a. term_values a r) aggs)) (append_assoc (encode_row r) both (all_term_values aggs r))
        (values_at (encode_row r ++ both) n r aggs (omega (arith, row_long r v, length-append (encode_row r) both)))

    -- an aggregate over rows of a fold
    abbrev over : Bounded → PAgg → Value
    over rows = plain_aggregate (map wide rows)

    one_column : (rows : Bounded) → IsRelation by.ks rows → (i : ℕ) (f : RangeRow → Value) → ((r : RangeRow) → IsRangeRow by.ks r → At (wide r) i (f r)) → map (λ row. value_at row i) (map wide rows) ≡ map f rows
    one_column rows v i f at =
        map-map wide (λ row. value_at row i) rows
        ∙ map_valid (IsRangeRow by.ks) (λ r. value_at (wide r) i) f rows v (λ r w. ap (λ o. unwrap_or o (value.Int (pos 0))) (at r w))

    one_sum : (rows : Bounded) → IsRelation by.ks rows → (i : ℕ) (f : RangeRow → ℤ) → ((r : RangeRow) → IsRangeRow by.ks r → At (wide r) i (value.Int (f r))) → over rows (Sum i) ≡ summed f rows
    one_sum rows v i f at =
        ap value.Int (ap int_sum (map-map wide (λ row. number (value_at row i)) rows
        ∙ map_valid (IsRangeRow by.ks) (λ r. number (value_at (wide r) i)) f rows v (λ r w. ap (λ o. number (unwrap_or o (value.Int (pos 0)))) (at r w))))

    -- the aggregates of a fold give its values
    pub aggs_are : (rows : Bounded) → IsRelation by.ks rows → (m : ℕ) (bs : List Agg) → ((r : RangeRow) → IsRangeRow by.ks r → FivesAt (wide r) m (map (λ a. term_values a r) bs)) → map (over rows) (fold_aggs m bs) ≡ all_fold_values bs rows
    aggs_are rows v m [] at = refl
    aggs_are rows v m (agg.Sum d ∷ bs) at =
        let a = one_sum rows v m (low_term d) (λ r w. (at r w).0.0) in
        let b = one_sum rows v (m + 1) (guess_term d) (λ r w. (at r w).0.1) in
        let g = one_sum rows v (m + 2) (high_term d) (λ r w. (at r w).0.2) in
        let h = one_sum rows v (m + 3) (sure_low_term d) (λ r w. (at r w).0.3) in
        let j = one_sum rows v (m + 4) (sure_high_term d) (λ r w. (at r w).0.4) in
        let rest = aggs_are rows v (m + 5) bs (λ r w. (at r w).1) in
        λ i. a i ∷ b i ∷ g i ∷ h i ∷ j i ∷ rest i
    aggs_are rows v m (agg.Min d ∷ bs) at =
        let a = ap least (one_column rows v m (λ r. (range_at d r).lo) (λ r w. (at r w).0.0)) in
        let b = ap least (one_column rows v (m + 1) (λ r. (range_at d r).sg) (λ r w. (at r w).0.1)) in
        let g = ap least (one_column rows v (m + 2) (λ r. (range_at d r).hi) (λ r w. (at r w).0.2)) in
        let h = ap greatest (one_column rows v (m + 3) (λ r. (range_at d r).hi) (λ r w. (at r w).0.3)) in
        let j = one_sum rows v (m + 4) (λ r. pos 0) (λ r w. (at r w).0.4) in
        let rest = aggs_are rows v (m + 5) bs (λ r w. (at r w).1) in
        λ i. a i ∷ b i ∷ g i ∷ h i ∷ j i ∷ rest i
    aggs_are rows v m (agg.Max d ∷ bs) at =
        let a = ap greatest (one_column rows v m (λ r. (range_at d r).hi) (λ r w. (at r w).0.0)) in
        let b = ap greatest (one_column rows v (m + 1) (λ r. (range_at d r).sg) (λ r w. (at r w).0.1)) in
        let g = ap greatest (one_column rows v (m + 2) (λ r. (range_at d r).lo) (λ r w. (at r w).0.2)) in
        let h = ap least (one_column rows v (m + 3) (λ r. (range_at d r).lo) (λ r w. (at r w).0.3)) in
        let j = one_sum rows v (m + 4) (λ r. pos 0) (λ r w. (at r w).0.4) in
        let rest = aggs_are rows v (m + 5) bs (λ r w. (at r w).1) in
        λ i. a i ∷ b i ∷ g i ∷ h i ∷ j i ∷ rest i

    module _ (rows : Bounded) (ok : IsRelation by.ks rows) (ok_aggs : AllByRecursion (IsOn c) aggs) where
      pub wide_rows : (ts : List Rows) (p : PlanTree) → GivesEncoded ts p rows → plain_rows (extend_all (fold_columns t aggs) p) ts ≡ map wide rows
      wide_rows ts p g =
          rows-extend_all (fold_columns t aggs) p ts ∙ ap (map (grow (fold_columns t aggs))) g
          ∙ map-map encode_row (grow (fold_columns t aggs)) rows
          ∙ map_valid (IsRangeRow by.ks) (λ r. grow (fold_columns t aggs) (encode_row r)) wide rows ok (grown ok_aggs)

      -- The rows of the folds, by the keys that occur.
      pub rows_by_keys : (ts : List Rows) (p : PlanTree) → GivesEncoded ts p rows → plain_rows (folds folding.EqualKeys c by.k aggs p) ts ≡ map (λ key. key ++ all_fold_values aggs (rows_of rows ok key)) (fold_keys rows ok)
      rows_by_keys ts p g =
          ap (plain_group (fold_places c by.k) (fold_aggs n aggs)) (wide_rows ts p g)
          ∙ group_made (IsRangeRow by.ks) wide fold_key (fold_places c by.k) same_key (fold_aggs n aggs) rows ok
          ∙ map_groups fold_key rows (λ key. key ++ map (over (rows_of rows ok key)) (fold_aggs n aggs)) (λ key. key ++ all_fold_values aggs (rows_of rows ok key))
          (λ key some. ap (λ vs. key ++ vs) (aggs_are (rows_of rows ok key) (rows_ok rows ok key) n aggs wide_at))

      -- The same where each row is a fold.
      pub rows_alone : (ts : List Rows) (p : PlanTree) → GivesEncoded ts p rows → plain_rows (folds folding.Rows c by.k aggs p) ts ≡ map (λ r. fold_key r ++ all_fold_values aggs (r ∷ [])) rows
      rows_alone ts p g =
          let places = fold_places c by.k ++ run n (5 * length aggs) in
          ap (map (kept places)) (wide_rows ts p g) ∙ map-map wide (kept places) rows
          ∙ map_valid (IsRangeRow by.ks) (λ r. kept places (wide r)) (λ r. fold_key r ++ all_fold_values aggs (r ∷ [])) rows ok own_row

      -- the numbers of its sums
      pub fold_numbers : group_numbers (fold_places c by.k) (fold_aggs n aggs) (map wide rows) ≡ flat_map (λ key. flat_map (magnitudes (map wide (rows_of rows ok key))) (fold_aggs n aggs)) (fold_keys rows ok)
      fold_numbers = numbers_made (IsRangeRow by.ks) wide fold_key (fold_places c by.k) same_key (fold_aggs n aggs) rows ok
