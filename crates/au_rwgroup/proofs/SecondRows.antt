-- The rows of the second grouping: each box with aggregates over the folds that overlap it.
use Rattle.std.specs.Prelude.{◌≡◌, ◌<◌, ℕ, ◌+◌, ◌*◌, Bool, true, List, [], ◌∷◌, ◌++◌, length, map, filter, flat_map, Some}
use Rattle.std.specs.List.{AllByRecursion, AllZip}
use Rattle.std.proofs.Common.{arith, refl, sym, ◌∙◌, ap, subst, append_assoc}
use Rattle.std.proofs.lemmas.List.{length-append, length-map, append-nil}
use Rattle.au_value.specs.declared.value.Value.{Value}
use Rattle.au_value.specs.Ranges.{Span, IsRangeOf, all_overlap, guesses}
use Rattle.au_expr.specs.Ordinary.{is_true}
use Rattle.au_algebra.specs.declared.query.Agg.{Agg}
use Rattle.au_algebra.specs.Lists.{same_row, copies}
use Rattle.au_algebra.specs.Ordinary.{Rows}
use Rattle.au_algebra.specs.Bounded.{RangeRow, Bounded, guessed_keys}
use Rattle.au_algebra.specs.Laws.{IsRangeRow, IsRelation}
use Rattle.au_algebra.proofs.Copies.{same_row_is, same_row_refl}
use Rattle.au_algebra.proofs.Each.{all_filter, all_from, all_append}
use Rattle.au_plain.specs.declared.plan.PAgg.{PAgg}
use Rattle.au_plain.specs.PTerms.{PTerm, plain_value}
use Rattle.au_plain.specs.Plans.{PlanTree, Join, extend_all}
use Rattle.au_plain.specs.PlanNumbers.{magnitudes, group_numbers}
use Rattle.au_plain.specs.Meaning.{plain_rows, kept, passes, plain_aggregate, plain_group}
use Rattle.au_encode.specs.Encode.{encode_cells, encode_counts}
use Rattle.au_rwexpr.specs.Cells.{run}
use Rattle.au_rwexpr.specs.Meets.{meets_term}
use Rattle.au_rwgroup.specs.GroupPlan.{second_grouping}
use Rattle.au_rwexpr.proofs.Places.{EndsOfAll, all_ends_at, all_ends_more}
use Rattle.au_rwexpr.proofs.Columns.{add_columns}
use Rattle.au_rwexpr.proofs.OnValues.{reading}
use Rattle.au_rwexpr.proofs.Picks.{all_ends_long, kept_are}
use Rattle.au_rwexpr.proofs.Gives.{grow_is, rows-extend_all, map-map, map_valid}
use Rattle.au_rwexpr.specs.Adding.{grow}
use Rattle.au_combine.proofs.Grouping as grouping
use Rattle.au_combine.proofs.Grouping.{all_occur, some_with}
use Rattle.au_combine.specs.Boxes.{sg_places}
use Rattle.au_combine.proofs.BoxRows.{keys_are}
use Rattle.au_combine.proofs.JoinGroups.{Apart, Met, pairs, with_left, distinct_apart, join_groups, join_numbers}
use Rattle.au_combine.proofs.JoinRows.{join_rows}
use Rattle.au_rwexpr.proofs.Meeting.{meets_has, guesses_meet}
use Rattle.au_combine.proofs.BoxPlaces.{first_picks}
use Rattle.au_combine.proofs.RowsApart.{apart_from}
use Rattle.au_rwgroup.proofs.FirstGroup as group
use Rattle.au_rwgroup.proofs.FoldRows as folds_of
use Rattle.au_rwgroup.proofs.Found.{Found, found_from}
use Rattle.au_rwgroup.proofs.Narrowed.{filter_valid}
use Rattle.au_rwgroup.proofs.Sharing.{Fold, IsFold, Sharing, fold_row, folds_with, key_parts, rows_with, spans_long}
use Rattle.au_rwexpr.proofs.PlanNumbersOf.{all_made}
use Rattle.au_rwexpr.proofs.Coded.{rl, rs, rh}
use Rattle.au_rwgroup.proofs.KeyReading.{KeyReading, counts_in}

-- the first columns of a row
run_first : (xs more : List Value) (w : ℕ) → length xs ≡ w → kept (run 0 w) (xs ++ more) ≡ xs
run_first xs more w e = kept_are (xs ++ more) (run 0 w) xs (first_picks xs more w e)

module _ (by : KeyReading) (more : List PAgg) (folded : List Agg) (rows : Bounded) (ok : IsRelation by.ks rows) where
  abbrev b : ℕ
  b = 3 * by.k + 3 + length more

  abbrev guess : RangeRow → List Value
  guess r = guesses (by.keys r.cells)

  abbrev pub group_of : List Value → Bounded
  group_of key = filter (λ r. same_row key (guess r)) rows

  abbrev pub box : List Value → List Span
  box key = by.box key (group_of key)

  -- what stands behind a box: its triple and what is kept
  abbrev tail : List Value → List Value
  tail key = encode_counts (counts_in by (group_of key)) ++ map (plain_aggregate (map (group.wide by) (group_of key))) more

  -- a box with its triple and what is kept
  abbrev pub box_row : List Value → List Value
  box_row key = encode_cells (box key) ++ tail key

  abbrev pub overlaps : List Value → RangeRow → Bool
  overlaps key r = all_overlap (by.keys r.cells) (box key)

  abbrev pub members : List Value → Bounded
  members key = filter (overlaps key) rows

  -- a key that occurs
  abbrev pub IsKey : List Value → Type 0
  IsKey key = grouping.Some guess key rows

  all_in : (key : List Value) (some : IsKey key) → IsRelation by.ks (some.first ∷ some.others)
  all_in key some = subst (λ ss. AllByRecursion (IsRangeRow by.ks) ss) some.is (all_filter (IsRangeRow by.ks) (λ r. same_row key (guess r)) rows ok)

  key_of_first : (key : List Value) (some : IsKey key) → key ≡ guess some.first
  key_of_first key some = same_row_is key (guess some.first) some.key_is

  pub box_long : (key : List Value) → IsKey key → length (box key) ≡ by.k
  box_long key some =
      subst (λ ss. length (by.box key ss) ≡ by.k) (sym some.is) (by.box_long key some.first some.others (all_in key some) (key_of_first key some))

  pub box_row_long : (key : List Value) → IsKey key → length (box_row key) ≡ b
  box_row_long key some =
      let cells_long : length (encode_cells (box key)) ≡ 3 * by.k = all_ends_long rl rs rh (box key) ∙ ap (λ m. 3 * m) (box_long key some) in
      omega (arith, length-append (encode_cells (box key)) (tail key), cells_long, length-map more (plain_aggregate (map (group.wide by) (group_of key))))

  -- the box is made of ranges, with the key as guess
  pub box_ranges : (key : List Value) → IsKey key → AllZip IsRangeOf by.kks (box key)
  box_ranges key some =
      subst (λ ss. AllZip IsRangeOf by.kks (by.box key ss)) (sym some.is) (by.box_kinded key some.first some.others (all_in key some) (key_of_first key some))

  pub box_guess : (key : List Value) → IsKey key → guesses (box key) ≡ key
  box_guess key some =
      ap (λ ss. guesses (by.box key ss)) some.is ∙ by.box_guess key some.first some.others (all_in key some) (key_of_first key some)

  -- a row that belongs to a box overlaps it
  pub belongs_overlaps : (key : List Value) → IsKey key → (r : RangeRow) → IsRangeRow by.ks r → same_row key (guess r) ≡ true → overlaps key r ≡ true
  belongs_overlaps key some r v s =
      guesses_meet by.kks (by.keys r.cells) (box key) (by.kinded r v) (box_ranges key some)
      (ap (same_row (guess r)) (box_guess key some ∙ same_row_is key (guess r) s) ∙ same_row_refl (guess r))

  -- whether a fold of this key overlaps a box
  abbrev pub fold_overlaps : List Value → List Value → Bool
  fold_overlaps key fold = all_overlap (folds_of.spans by fold) (box key)

  -- the rows of those that do overlap it
  pub members_are : (key : List Value) → rows_with by (fold_overlaps key) rows ≡ members key
  members_are key =
      filter_valid (IsRangeRow by.ks) (λ r. fold_overlaps key (folds_of.fold_key by r)) (overlaps key) rows ok
      (λ r v. ap (λ xs. all_overlap xs (box key)) (folds_of.same_itself by r v).ranges)

  pub found_member : (key : List Value) → IsKey key → Found (overlaps key) rows
  found_member key some = found_from (IsRangeRow by.ks) (λ r. same_row key (guess r)) (overlaps key) (λ r v s. belongs_overlaps key some r v s) rows ok some.first some.others some.is

  pub some_member : (key : List Value) → IsKey key → 0 < length (members key)
  some_member key some = subst (λ rs. 0 < length rs) (sym (found_member key some).is) (omega arith)

  pub some_with_fold : (key : List Value) → IsKey key → 0 < length (rows_with by (fold_overlaps key) rows)
  some_with_fold key some = subst (λ rs. 0 < length rs) (sym (members_are key)) (some_member key some)

  abbrev pub keys_list : Rows
  keys_list = guessed_keys by.keys rows

  pub all_keys : AllByRecursion IsKey keys_list
  all_keys = all_from (λ key. 0 < copies key (map guess rows)) IsKey keys_list (λ key o. some_with guess key rows o) (all_occur guess rows)

  abbrev pub joined : List Value × Fold → List Value
  joined s = box_row s.0 ++ fold_row by folded s.1

  abbrev pub IsPair : List Value × Fold → Type 0
  IsPair s = IsKey s.0 × IsFold by s.1

  -- the parts of a joined row
  pub box_at : (s : List Value × Fold) → EndsOfAll rl rs rh (joined s) 0 (box s.0)
  box_at s = all_ends_more rl rs rh (box_row s.0) (fold_row by folded s.1) 0 (box s.0) (all_ends_at rl rs rh [] (tail s.0) 0 (box s.0) refl)

  -- what stands behind a fold's keys
  abbrev pub behind_keys : Fold → List Value
  behind_keys fold = folds_of.flags by (folds_of.sure_of by fold.key) (folds_of.guess_of by fold.key) ++ folds_of.all_fold_values folded fold.rows

  pub fold_row_is : (fold : Fold) → IsFold by fold → fold_row by folded fold ≡ encode_cells (folds_of.spans by fold.key) ++ behind_keys fold
  fold_row_is fold some =
      let values = folds_of.all_fold_values folded fold.rows in
      ap (λ f. f ++ values) (key_parts by fold some)
      ∙ append_assoc (encode_cells (folds_of.spans by fold.key)) (folds_of.flags by (folds_of.sure_of by fold.key) (folds_of.guess_of by fold.key)) values

  pub keys_at : (s : List Value × Fold) → IsPair s → EndsOfAll rl rs rh (joined s) b (folds_of.spans by s.1.key)
  keys_at s v =
      subst (λ r. EndsOfAll rl rs rh (box_row s.0 ++ r) b (folds_of.spans by s.1.key)) (sym (fold_row_is s.1 v.1))
      (all_ends_at rl rs rh (box_row s.0) (behind_keys s.1) b (folds_of.spans by s.1.key) (box_row_long s.0 v.0))

  meets_now : (key : List Value) (fold : Fold) → IsKey key → IsFold by fold → passes (meets_term b 0 by.k) (box_row key ++ fold_row by folded fold) ≡ fold_overlaps key fold.key
  meets_now key fold some there =
      let row = box_row key ++ fold_row by folded fold in
      ap (λ t. is_true (plain_value (meets_term b 0 by.k) t)) (sym (append-nil row))
      ∙ ap is_true (meets_has row b 0 by.k (folds_of.spans by fold.key) (box key) (spans_long by fold there) (box_long key some) (keys_at (key, fold) (some, there)) (box_at (key, fold)) [])

  module _ (shared : Sharing by rows) where
    -- the folds that overlap a box
    abbrev pub folds : List Value → List Fold
    folds key = folds_with by (fold_overlaps key) shared.parts

    pub folds_ok : (key : List Value) → AllByRecursion (IsFold by) (folds key)
    folds_ok key = all_filter (IsFold by) (λ fold. fold_overlaps key fold.key) shared.parts shared.are

    pub has_member : (key : List Value) → IsKey key → Met box_row folds key
    has_member key some =
        first_of key (folds key) refl (shared.some (fold_overlaps key) (some_with_fold key some))
      where
        first_of : (key : List Value) (fs : List Fold) → folds key ≡ fs → 0 < length fs → Met box_row folds key
        first_of key [] e h = let never : ⊥ = omega (arith, h) in absurd never
        first_of key (f ∷ fs) e h = record { first = f; others = fs; is = e }

    pub pairs_ok : (js : Rows) → AllByRecursion IsKey js → AllByRecursion IsPair (pairs box_row folds js)
    pairs_ok [] v = tt
    pairs_ok (j ∷ js) v =
        all_append IsPair (with_left box_row folds j (folds j)) (pairs box_row folds js)
        (all_made (IsFold by) IsPair (λ f. (j, f)) (folds j) (folds_ok j) (λ f p. (v.0, p))) (pairs_ok js v.1)

    -- each box with each fold that overlaps it
    abbrev pub all_pairs : List (List Value × Fold)
    all_pairs = pairs box_row folds keys_list

    -- The rows of the join.
    pub joined_rows : (ts : List Rows) (boxes p : PlanTree) → plain_rows boxes ts ≡ map box_row keys_list → plain_rows p ts ≡ map (fold_row by folded) shared.parts → plain_rows (Join (meets_term b 0 by.k) boxes p) ts ≡ map joined all_pairs
    joined_rows ts boxes p g h =
        (λ i. filter (passes (meets_term b 0 by.k)) (flat_map (λ x. map (λ y. x ++ y) (h i)) (g i)))
        ∙ join_rows IsKey (IsFold by) box_row (fold_row by folded) (passes (meets_term b 0 by.k)) (λ key fold. fold_overlaps key fold.key) meets_now keys_list shared.parts all_keys shared.are

    module _ (columns : List PTerm) (values : List Value × Fold → List Value) (added : (s : List Value × Fold) → IsPair s → add_columns reading columns (joined s) ≡ Some (joined s ++ values s)) (aggs : List PAgg) where
      abbrev pub wide : List Value × Fold → List Value
      wide s = joined s ++ values s

      -- the rows of the join with the further columns
      pub wide_rows : (ts : List Rows) (boxes p : PlanTree) → plain_rows boxes ts ≡ map box_row keys_list → plain_rows p ts ≡ map (fold_row by folded) shared.parts → plain_rows (extend_all columns (Join (meets_term b 0 by.k) boxes p)) ts ≡ map wide all_pairs
      wide_rows ts boxes p g h =
          rows-extend_all columns (Join (meets_term b 0 by.k) boxes p) ts
          ∙ ap (map (grow columns)) (joined_rows ts boxes p g h)
          ∙ map-map joined (grow columns) all_pairs
          ∙ map_valid IsPair (λ s. grow columns (joined s)) wide all_pairs (pairs_ok keys_list all_keys) (λ s v. grow_is columns (joined s) (wide s) (added s v))

      same_key : (s : List Value × Fold) → IsPair s → kept (run 0 b) (wide s) ≡ box_row s.0
      same_key s v = ap (kept (run 0 b)) (append_assoc (box_row s.0) (fold_row by folded s.1) (values s)) ∙ run_first (box_row s.0) (fold_row by folded s.1 ++ values s) b (box_row_long s.0 v.0)

      apart : Apart box_row keys_list
      apart =
          apart_from box_row (kept (sg_places 0 by.k)) keys_list
          (all_from IsKey (λ key. kept (sg_places 0 by.k) (box_row key) ≡ key) keys_list
          (λ key some. keys_are IsKey box_row box by.k (λ u v. all_ends_at rl rs rh [] (tail u) 0 (box u) refl) box_long key some ∙ box_guess key some) all_keys)
          (distinct_apart (map guess rows))

      all_met : AllByRecursion (Met box_row folds) keys_list
      all_met = all_from IsKey (Met box_row folds) keys_list has_member all_keys

      -- The rows of the second grouping, for any further columns and aggregates.
      pub second_rows : (ts : List Rows) (boxes p : PlanTree) → plain_rows boxes ts ≡ map box_row keys_list → plain_rows p ts ≡ map (fold_row by folded) shared.parts → plain_rows (second_grouping by.k b columns aggs boxes p) ts ≡ map (λ key. box_row key ++ map (plain_aggregate (map wide (with_left box_row folds key (folds key)))) aggs) keys_list
      second_rows ts boxes p g h =
          ap (plain_group (run 0 b) aggs) (wide_rows ts boxes p g h)
          ∙ join_groups box_row folds IsPair wide (run 0 b) same_key aggs keys_list apart all_met (pairs_ok keys_list all_keys)

      -- The numbers of its sums.
      pub second_numbers : group_numbers (run 0 b) aggs (map wide all_pairs) ≡ flat_map (λ key. flat_map (magnitudes (map wide (with_left box_row folds key (folds key)))) aggs) keys_list
      second_numbers = join_numbers box_row folds IsPair wide (run 0 b) same_key aggs keys_list apart all_met (pairs_ok keys_list all_keys)
