-- The rows of Difference as a plan are those of the bounded operator, over a left side with pairwise different rows.
use Rattle.std.specs.Prelude.{◌≡◌, ℕ, zero, suc, ◌+◌, ◌*◌, ◌==◌, true, not, List, [], ◌∷◌, ◌++◌, length, map, filter, flat_map, sum_by, pos, Some, unwrap_or, nat_le}
use Rattle.std.specs.List.{AllByRecursion}
use Rattle.std.proofs.Common.{arith, refl, sym, ◌∙◌, ap}
use Rattle.std.proofs.lemmas.List.{length-append, map-append}
use Rattle.std.proofs.lemmas.List.Sums.{sum_by-cons}
use Rattle.au_value.specs.declared.kinds.Kind.{Kind}
use Rattle.au_value.specs.declared.value.Value.{Value}
use Rattle.au_value.specs.declared.value.Value.TheVariants as value
use Rattle.au_value.specs.Order.{below}
use Rattle.au_value.specs.Ranges.{all_overlap, all_certainly_equal, guesses, greater}
use Rattle.au_annot.specs.Triples.{Counts, counts, is_none}
use Rattle.au_expr.specs.Ordinary as on_values
use Rattle.au_algebra.specs.Ordinary.{Rows}
use Rattle.au_algebra.specs.Bounded.{RangeRow, Bounded, less, present, most_of, guess_of, least_of, guessing}
use Rattle.au_algebra.specs.Laws.{IsRangeRow, IsRelation}
use Rattle.au_algebra.proofs.Each.{all_append, all_filter}
use Rattle.au_plain.specs.declared.plan.PAgg.{PAgg}
use Rattle.au_plain.specs.declared.plan.PAgg.TheVariants.{Sum}
use Rattle.au_plain.specs.Plans.{PlanTree, Join, extend_all}
use Rattle.au_plain.specs.Meaning.{plain_rows, kept, passes, plain_aggregate, plain_group}
use Rattle.au_encode.specs.Encode.{encode_row, encode_counts}
use Rattle.au_rwexpr.specs.Adding.{grow}
use Rattle.au_rwexpr.specs.Cells.{cell_places, run, three_places}
use Rattle.au_rwexpr.specs.Counts.{positive}
use Rattle.au_rwexpr.specs.Flatten.{hi}
use Rattle.au_rwexpr.specs.Meets.{meets_term}
use Rattle.au_rwexpr.proofs.Coded.{rl, rs, rh, cl, cg, cm}
use Rattle.au_rwexpr.proofs.Columns.{AllMean, adds}
use Rattle.au_rwexpr.proofs.Flags.{below_zero}
use Rattle.au_rwexpr.proofs.Gives.{GivesEncoded, grow_is, rows-extend_all, map-map, map_valid, passing}
use Rattle.au_rwexpr.proofs.Meeting.{guesses_meet, equal_meet}
use Rattle.au_rwexpr.proofs.OnValues.{reading, column_has}
use Rattle.au_rwexpr.proofs.Picks.{kept_are, picks_more, pick_cells, pick_three, coded_cells, coded_triple, ends_past}
use Rattle.au_rwexpr.proofs.Places.{At, Ends, ends_more, all_ends_more}
use Rattle.au_rwexpr.proofs.PlanNumbersOf.{all_made}
use Rattle.au_combine.proofs.BoxPlaces.{first_picks}
use Rattle.au_combine.proofs.CombineRows.{sum_column}
use Rattle.au_combine.proofs.JoinGroups.{Apart, pairs, with_left}
use Rattle.au_combine.proofs.JoinRows.{join_rows}
use Rattle.au_rwdiff.specs.Differences.{no_columns, taken_columns, left_columns, taken_plan, summed_plan, difference_plan}
use Rattle.au_rwdiff.proofs.FirstGroups.{firsts, ledger, ledger_groups}
use Rattle.au_rwdiff.proofs.Floor.{floor}
use Rattle.au_rwdiff.proofs.JoinedRows as j
use Rattle.au_rwdiff.proofs.Taken.{implied_by, sum_mapped}
use Rattle.au_rwdiff.proofs.Taken as t

some_is_left : (n : ℕ) → nat_le 1 n ≡ not (n == 0)
some_is_left zero = refl
some_is_left (suc n) = grind arith

module _ (ks : List Kind) (left right : Bounded) (left_ok : IsRelation ks left) (right_ok : IsRelation ks right) (apart : Apart encode_row left) where
  abbrev c : ℕ
  c = length ks

  abbrev w : ℕ
  w = 3 * c + 3

  abbrev u : ℕ
  u = w + 3 * c

  -- the partners of a left row, and what they take
  abbrev pub partners : RangeRow → Bounded
  partners r = filter (j.meet ks r) right

  abbrev pub shares : RangeRow → List Counts
  shares r = map (j.share ks r) (partners r)

  abbrev pub none : Counts
  none = counts 0 0 0

  -- a left row with three counts behind it
  abbrev pub with_counts : RangeRow × Counts → List Value
  with_counts s = encode_row s.0 ++ encode_counts s.1

  abbrev pub all_pairs : List (RangeRow × RangeRow)
  all_pairs = pairs encode_row partners left

  abbrev pub entries : List (RangeRow × Counts)
  entries = ledger encode_row none shares left

  abbrev Fine : RangeRow × Counts → Type 0
  Fine s = IsRangeRow ks s.0

  with_fine : (r : RangeRow) (ms : List Counts) → IsRangeRow ks r → AllByRecursion Fine (with_left encode_row shares r ms)
  with_fine r [] v = tt
  with_fine r (m ∷ ms) v = (v, with_fine r ms v)

  pairs_fine : (of : RangeRow → List Counts) (rows : Bounded) → IsRelation ks rows → AllByRecursion Fine (pairs encode_row of rows)
  pairs_fine of [] v = tt
  pairs_fine of (r ∷ rows) v = all_append Fine (with_left encode_row of r (of r)) (pairs encode_row of rows) (with_fine r (of r) v.0) (pairs_fine of rows v.1)

  pub entries_fine : AllByRecursion Fine entries
  entries_fine = all_append Fine (firsts encode_row none shares left) (pairs encode_row shares left) (pairs_fine (λ r. none ∷ []) left left_ok) (pairs_fine shares left left_ok)

  pub pairs_ok : (rows : Bounded) → IsRelation ks rows → AllByRecursion (j.IsPair ks) (pairs encode_row partners rows)
  pairs_ok [] v = tt
  pairs_ok (r ∷ rows) v =
      all_append (j.IsPair ks) (with_left encode_row partners r (partners r)) (pairs encode_row partners rows)
      (all_made (IsRangeRow ks) (j.IsPair ks) (λ m. (r, m)) (partners r) (all_filter (IsRangeRow ks) (j.meet ks r) right right_ok) (λ m p. (v.0, p)))
      (pairs_ok rows v.1)

  pub same_key : (s : RangeRow × Counts) → Fine s → kept (run 0 w) (with_counts s) ≡ encode_row s.0
  same_key s v = kept_are (with_counts s) (run 0 w) (encode_row s.0) (first_picks (encode_row s.0) (encode_counts s.1) w (j.row_long ks s.0 v))

  pub counts_at : (s : RangeRow × Counts) → Fine s → Ends cl cg cm (with_counts s) w s.1
  counts_at s v = ends_past cl cg cm (encode_row s.0) [] w s.1 (j.row_long ks s.0 v)

  -- what is taken from a left row
  abbrev pub gone : RangeRow → Counts
  gone r =
      counts (most_of (filter (λ x. all_overlap r.cells x.cells) right)) (guess_of (guessing (guesses r.cells) right))
      (least_of (filter (λ x. all_certainly_equal r.cells x.cells) right))

  -- a part of what the partners take, beside nothing
  part_of : (r : RangeRow) (part : Counts → ℕ) (n : ℕ) → 0 ≡ part none → sum_by (λ x. part (j.share ks r x)) (partners r) ≡ n → sum_by part (none ∷ shares r) ≡ n
  part_of r part n h e =
      let first = sum_by-cons part none (shares r) in
      let rest : sum_by part (shares r) ≡ sum_by (λ x. part (j.share ks r x)) (partners r) = sum_mapped part (j.share ks r) (partners r) in
      omega (arith, first, rest, h, e)

  pub most_gone : (r : RangeRow) → IsRangeRow ks r → sum_by (λ m. m.least) (none ∷ shares r) ≡ (gone r).least
  most_gone r v = part_of r (λ m. m.least) (gone r).least refl refl

  pub guess_gone : (r : RangeRow) → IsRangeRow ks r → sum_by (λ m. m.guess) (none ∷ shares r) ≡ (gone r).guess
  guess_gone r v =
      part_of r (λ m. m.guess) (gone r).guess refl
      (t.taken (IsRangeRow ks) (j.meet ks r) (j.same ks r) (j.same ks r) (λ x. x.annot.guess)
      (λ x p. implied_by (j.meet ks r x) (j.same ks r x) (guesses_meet ks r.cells x.cells v.cells p.cells)) right right_ok)

  pub least_gone : (r : RangeRow) → IsRangeRow ks r → sum_by (λ m. m.most) (none ∷ shares r) ≡ (gone r).most
  least_gone r v =
      part_of r (λ m. m.most) (gone r).most refl
      (t.taken (IsRangeRow ks) (j.meet ks r) (j.sure ks r) (j.sure ks r) (λ x. x.annot.least)
      (λ x p. implied_by (j.meet ks r x) (j.sure ks r x) (equal_meet r.cells x.cells)) right right_ok)

  -- the sum of a column over the entries of a left row
  one_sum : (r : RangeRow) → IsRangeRow ks r → (i : ℕ) (part : Counts → ℕ) → ((m : Counts) → At (with_counts (r, m)) i (value.Int (pos (part m)))) → plain_aggregate (map with_counts (with_left encode_row shares r (none ∷ shares r))) (Sum i) ≡ value.Int (pos (sum_by part (none ∷ shares r)))
  one_sum r v i part at =
      ap (λ rows. plain_aggregate rows (Sum i)) (map-map (λ m. (r, m)) with_counts (none ∷ shares r))
      ∙ ap value.Int (sum_column (λ m. Unit {0}) (λ m. with_counts (r, m)) i part (λ m h. at m) (λ ms. sum_by part ms) refl (λ m ms. sym (sum_by-cons part m ms)) (none ∷ shares r) (all_units (none ∷ shares r)))
    where
      all_units : (ms : List Counts) → AllByRecursion (λ m. Unit {0}) ms
      all_units [] = tt
      all_units (m ∷ ms) = (tt, all_units ms)

  abbrev pub aggs : List PAgg
  aggs = Sum w ∷ Sum (w + 1) ∷ Sum (w + 2) ∷ []

  all_sums : (r : RangeRow) → IsRangeRow ks r → map (plain_aggregate (map with_counts (with_left encode_row shares r (none ∷ shares r)))) aggs ≡ encode_counts (gone r)
  all_sums r v =
      let x = one_sum r v w (λ m. m.least) (λ m. (counts_at (r, m) v).lo) ∙ ap (λ n. value.Int (pos n)) (most_gone r v) in
      let y = one_sum r v (w + 1) (λ m. m.guess) (λ m. (counts_at (r, m) v).sg) ∙ ap (λ n. value.Int (pos n)) (guess_gone r v) in
      let z = one_sum r v (w + 2) (λ m. m.most) (λ m. (counts_at (r, m) v).hi) ∙ ap (λ n. value.Int (pos n)) (least_gone r v) in
      λ i. x i ∷ y i ∷ z i ∷ []

  -- a left row with what is taken, and then with what is left
  abbrev pub with_gone : RangeRow → List Value
  with_gone r = with_counts (r, gone r)

  abbrev pub whole : RangeRow → List Value
  whole r = with_gone r ++ encode_counts (less right r).annot

  abbrev places : List ℕ
  places = cell_places 0 c ++ three_places (w + 3)

  gone_long : (r : RangeRow) → IsRangeRow ks r → length (with_gone r) ≡ w + 3
  gone_long r v = length-append (encode_row r) (encode_counts (gone r)) ∙ ap (λ m. m + 3) (j.row_long ks r v)

  pub own_at : (r : RangeRow) → IsRangeRow ks r → Ends cl cg cm (with_gone r) (3 * c) r.annot
  own_at r v = ends_more cl cg cm (encode_row r) (encode_counts (gone r)) (3 * c) r.annot (coded_triple rl rs rh cl cg cm c r.cells r.annot (j.long ks r v))

  pub left_mean : (r : RangeRow) → IsRangeRow ks r → AllMean reading (with_gone r) (left_columns (3 * c) w) (encode_counts (less right r).annot)
  left_mean r v =
      let row = with_gone r in
      let x = own_at r v in
      let y = counts_at (r, gone r) v in
      let l = column_has row (3 * c) (cl r.annot) x.lo in
      let g = column_has row (3 * c + 1) (cg r.annot) x.sg in
      let m = column_has row (3 * c + 2) (cm r.annot) x.hi in
      let a = column_has row w (cl (gone r)) y.lo in
      let b = column_has row (w + 1) (cg (gone r)) y.sg in
      let d = column_has row (w + 2) (cm (gone r)) y.hi in (
        (λ more. (λ i. Some (greater (on_values.subtract (l more i) (a more i)) (value.Int (pos 0)))) ∙ ap Some (floor r.annot.least (gone r).least)),
        (
          (λ more. (λ i. Some (greater (on_values.subtract (g more i) (b more i)) (value.Int (pos 0)))) ∙ ap Some (floor r.annot.guess (gone r).guess)),
          ((λ more. (λ i. Some (greater (on_values.subtract (m more i) (d more i)) (value.Int (pos 0)))) ∙ ap Some (floor r.annot.most (gone r).most)), tt),
        ),
      )

  left_grown : (r : RangeRow) → IsRangeRow ks r → grow (left_columns (3 * c) w) (with_gone r) ≡ whole r
  left_grown r v =
      grow_is (left_columns (3 * c) w) (with_gone r) (whole r) (adds reading (with_gone r) (left_columns (3 * c) w) (encode_counts (less right r).annot) (left_mean r v))

  -- the new counts
  pub new_at : (r : RangeRow) → IsRangeRow ks r → Ends cl cg cm (whole r) (w + 3) (less right r).annot
  new_at r v = ends_past cl cg cm (with_gone r) [] (w + 3) (less right r).annot (gone_long r v)

  same_test : (r : RangeRow) → IsRangeRow ks r → passes (positive (hi (w + 3))) (whole r) ≡ not (is_none (less right r).annot)
  same_test r v =
      (λ i. below (value.Int (pos 0)) (unwrap_or ((new_at r v).hi i) (value.Int (pos 0)))) ∙ below_zero (less right r).annot.most ∙ some_is_left (less right r).annot.most

  same_row_kept : (r : RangeRow) → IsRangeRow ks r → passes (positive (hi (w + 3))) (whole r) ≡ true → kept places (whole r) ≡ encode_row (less right r)
  same_row_kept r v h =
      let new = encode_counts (less right r).annot in
      let cells = all_ends_more rl rs rh (with_gone r) new 0 r.cells (all_ends_more rl rs rh (encode_row r) (encode_counts (gone r)) 0 r.cells (coded_cells rl rs rh cl cg cm c r.cells r.annot (j.long ks r v))) in
      kept_are (whole r) places (encode_row (less right r))
      (picks_more (whole r) (cell_places 0 c) (three_places (w + 3)) _ new (pick_cells rl rs rh (whole r) 0 c r.cells (j.long ks r v) cells)
      (pick_three cl cg cm (whole r) (w + 3) (less right r).annot (new_at r v)))

  module _ (ts : List Rows) (p q : PlanTree) (g : GivesEncoded ts p left) (h : GivesEncoded ts q right) where
    pub joined_rows : plain_rows (Join (meets_term 0 w c) p q) ts ≡ map (j.joined ks) all_pairs
    joined_rows =
        (λ i. filter (passes (meets_term 0 w c)) (flat_map (λ a. map (λ b. a ++ b) (h i)) (g i)))
        ∙ join_rows (IsRangeRow ks) (IsRangeRow ks) encode_row encode_row (passes (meets_term 0 w c)) (j.meet ks) (λ r m v p. j.meets_now ks (r, m) (v, p)) left right left_ok right_ok

    shared : (rows : Bounded) → map (λ s. encode_row s.0 ++ encode_counts (j.share ks s.0 s.1)) (pairs encode_row partners rows) ≡ map with_counts (pairs encode_row shares rows)
    shared [] = refl
    shared (r ∷ rows) =
        let row_of : RangeRow × RangeRow → List Value = λ s. encode_row s.0 ++ encode_counts (j.share ks s.0 s.1) in
        let pair : RangeRow → RangeRow × RangeRow = λ m. (r, m) in
        let entry : Counts → RangeRow × Counts = λ m. (r, m) in
        let first : map row_of (map pair (partners r)) ≡ map with_counts (map entry (shares r)) =
        map-map pair row_of (partners r)
        ∙ sym (map-map (j.share ks r) (λ m. with_counts (entry m)) (partners r))
        ∙ sym (map-map entry with_counts (shares r)) in
        map-append row_of (with_left encode_row partners r (partners r)) (pairs encode_row partners rows)
        ∙ (λ i. first i ++ shared rows i)
        ∙ sym (map-append with_counts (with_left encode_row shares r (shares r)) (pairs encode_row shares rows))

    taken_rows : plain_rows (taken_plan c w p q) ts ≡ map with_counts (pairs encode_row shares left)
    taken_rows =
        let new = run 0 w ++ three_places (w + w) in
        ap (map (kept new)) (rows-extend_all (taken_columns c w u) (Join (meets_term 0 w c) p q) ts
        ∙ ap (map (grow (taken_columns c w u))) joined_rows
        ∙ map-map (j.joined ks) (grow (taken_columns c w u)) all_pairs)
        ∙ map-map (λ s. grow (taken_columns c w u) (j.joined ks s)) (kept new) all_pairs
        ∙ map_valid (j.IsPair ks) (λ s. kept new (grow (taken_columns c w u) (j.joined ks s))) (λ s. encode_row s.0 ++ encode_counts (j.share ks s.0 s.1)) all_pairs (pairs_ok left left_ok) (j.taken_kept ks)
        ∙ shared left

    zero_grown : (rows : Bounded) → IsRelation ks rows → map (grow no_columns) (map encode_row rows) ≡ map with_counts (firsts encode_row none shares rows)
    zero_grown [] v = refl
    zero_grown (r ∷ rows) v =
        λ i. (grow_is no_columns (encode_row r) (with_counts (r, none)) (adds reading (encode_row r) no_columns (encode_counts none) ((λ more. refl), ((λ more. refl), ((λ more. refl), tt))))) i ∷ zero_grown rows v.1 i

    zero_rows : plain_rows (extend_all no_columns p) ts ≡ map with_counts (firsts encode_row none shares left)
    zero_rows = rows-extend_all no_columns p ts ∙ ap (map (grow no_columns)) g ∙ zero_grown left left_ok

    pub entry_rows : plain_rows (extend_all no_columns p) ts ++ plain_rows (taken_plan c w p q) ts ≡ map with_counts entries
    entry_rows = (λ i. zero_rows i ++ taken_rows i) ∙ sym (map-append with_counts (firsts encode_row none shares left) (pairs encode_row shares left))

    pub summed_rows : plain_rows (summed_plan c w p q) ts ≡ map with_gone left
    summed_rows =
        ap (plain_group (run 0 w) aggs) entry_rows
        ∙ ledger_groups encode_row none shares Fine with_counts (run 0 w) same_key aggs left apart entries_fine
        ∙ map_valid (IsRangeRow ks) (λ r. encode_row r ++ map (plain_aggregate (map with_counts (with_left encode_row shares r (none ∷ shares r)))) aggs) with_gone left left_ok
        (λ r v. ap (λ vs. encode_row r ++ vs) (all_sums r v))

    pub whole_rows : plain_rows (extend_all (left_columns (3 * c) w) (summed_plan c w p q)) ts ≡ map whole left
    whole_rows =
        rows-extend_all (left_columns (3 * c) w) (summed_plan c w p q) ts
        ∙ ap (map (grow (left_columns (3 * c) w))) summed_rows
        ∙ map-map with_gone (grow (left_columns (3 * c) w)) left
        ∙ map_valid (IsRangeRow ks) (λ r. grow (left_columns (3 * c) w) (with_gone r)) whole left left_ok left_grown

    -- Difference's plan gives the rows that are left.
    pub difference_rows : GivesEncoded ts (difference_plan c p q) (present (map (less right) left))
    difference_rows =
        ap (λ rows. map (kept places) (filter (passes (positive (hi (w + 3)))) rows)) whole_rows
        ∙ passing (IsRangeRow ks) whole (passes (positive (hi (w + 3)))) (kept places) (less right) (λ r. not (is_none r.annot)) encode_row same_test same_row_kept left left_ok
