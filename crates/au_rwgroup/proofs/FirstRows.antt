-- The rows of the first grouping, and so of Distinct.
use Rattle.std.specs.Prelude.{◌≡◌, ◌≤◌, ◌<◌, ℕ, ◌+◌, ◌*◌, Bool, not, ◌&&◌, List, [], ◌∷◌, ◌++◌, length, map, filter, pos, nat_le, unwrap_or, sum_by, if◌then◌else◌}
use Rattle.std.specs.List.{AllByRecursion, list_any}
use Rattle.std.proofs.Common.{arith, refl, sym, ◌∙◌, ap, subst, append_assoc}
use Rattle.std.proofs.lemmas.List.{length-append, length-map, append-nil}
use Rattle.au_value.specs.declared.kinds.Kind.{Kind}
use Rattle.au_value.specs.declared.value.Value.{Value}
use Rattle.au_value.specs.declared.value.Value.TheVariants as value
use Rattle.au_value.specs.Ranges.{Span, IsRangeOf, guesses, all_certain}
use Rattle.au_expr.specs.Ordinary as on_values
use Rattle.au_algebra.specs.declared.query.Agg.{Agg}
use Rattle.au_algebra.specs.Lists.{same_row, copies, greatest, value_at}
use Rattle.au_algebra.specs.Ordinary.{Rows}
use Rattle.au_algebra.specs.Bounded as bounded
use Rattle.au_algebra.specs.Bounded.{RangeRow, Bounded, hull_of, group_counts, some_of, most_of, output, guessed_keys}
use Rattle.au_algebra.specs.Laws.{IsRangeRow, IsRelation}
use Rattle.au_algebra.proofs.Each.{all_filter, all_from}
use Rattle.au_plain.specs.declared.plan.PAgg.{PAgg}
use Rattle.au_plain.specs.declared.plan.PAgg.TheVariants.{Max}
use Rattle.au_plain.specs.PTerms.{Add, Column}
use Rattle.au_plain.specs.Plans.{PlanTree, extend_all}
use Rattle.au_plain.specs.Meaning.{plain_rows, kept, plain_aggregate, extended}
use Rattle.au_encode.specs.Encode.{encode, encode_row, encode_cells, encode_counts}
use Rattle.au_encode.proofs.Decoded.{cells_length}
use Rattle.au_rwexpr.specs.Cells.{cell_places, run}
use Rattle.au_rwgroup.specs.Groups as plans
use Rattle.au_rwgroup.specs.Groups.{group_columns, first_aggs, first_grouping}
use Rattle.au_rwexpr.proofs.Places.{At, at_more, at_past, all_ends_at}
use Rattle.au_rwexpr.proofs.Picks.{Picks, kept_are, picks_more, picks_wider, pick_cells, coded_long, all_ends_long}
use Rattle.au_combine.specs.Boxes.{boxes}
use Rattle.au_combine.proofs.BoxPlaces.{run_picks}
use Rattle.au_rwexpr.proofs.Gives.{GivesEncoded, rows-extend_all, map-map, map_valid}
use Rattle.au_rwexpr.specs.Adding.{grow}
use Rattle.au_combine.proofs.Grouping.{map_groups, all_occur, some_with}
use Rattle.au_combine.proofs.BoxRows.{boxes_rows, hull_long}
use Rattle.au_combine.proofs.CombineRows.{sum_column}
use Rattle.au_rwexpr.proofs.Present.{present_map}
use Rattle.au_rwexpr.proofs.Flags.{counted, greatest_counted, sum_failing}
use Rattle.au_rwgroup.proofs.FirstGroup as group
use Rattle.au_rwexpr.proofs.Coded.{rl, rs, rh, cl, cg, cm}
use Rattle.au_rwgroup.proofs.KeyReading.{KeyReading, all_cells, hull_most}

-- the last steps on a row: the most is the sum of two columns
finish : {B : Type 0} (k : ℕ) (box : List Span) (a b : Value) (u o : ℕ) (g : B → Value) (xs : List B) → length box ≡ k → kept (cell_places 0 k ++ (3 * k ∷ (3 * k + 1) ∷ (3 * k + 4 + length xs) ∷ run (3 * k + 4) (length xs))) (extended (Add (Column (3 * k + 2)) (Column (3 * k + 3))) (encode_cells box ++ (a ∷ b ∷ value.Int (pos u) ∷ value.Int (pos o) ∷ map g xs))) ≡ encode_cells box ++ (a ∷ b ∷ value.Int (pos (u + o)) ∷ map g xs)
finish k box a b u o g xs e =
    let w = 3 * k in
    let cells = encode_cells box in
    let uv = value.Int (pos u) in
    let ov = value.Int (pos o) in
    let tail = a ∷ b ∷ uv ∷ ov ∷ map g xs in
    let row = cells ++ tail in
    let sum = value.Int (pos (u + o)) in
    let cells_long : length cells ≡ w = all_ends_long rl rs rh box ∙ ap (λ m. 3 * m) e in
    let at_u : At row (w + 2) uv = at_past cells tail 2 (w + 2) uv (omega (arith, cells_long)) refl in
    let at_o : At row (w + 3) ov = at_past cells tail 3 (w + 3) ov (omega (arith, cells_long)) refl in
    let new : extended (Add (Column (w + 2)) (Column (w + 3))) row ≡ row ++ sum ∷ [] =
    (λ i. row ++ on_values.add (unwrap_or (at_u i) (value.Int (pos 0))) (unwrap_or (at_o i) (value.Int (pos 0))) ∷ []) in
    let whole = row ++ sum ∷ [] in
    let tail_long : length row ≡ w + 4 + length xs = length-append cells tail ∙ (λ i. cells_long i + length tail) ∙ (let q : w + length tail ≡ w + 4 + length xs = omega (arith, length-map xs g) in q) in
    let pre = cells ++ (a ∷ b ∷ uv ∷ ov ∷ []) in
    let pre_long : length pre ≡ w + 4 = length-append cells (a ∷ b ∷ uv ∷ ov ∷ []) ∙ (λ i. cells_long i + 4) in
    let turned : pre ++ map g xs ≡ row = append_assoc cells (a ∷ b ∷ uv ∷ ov ∷ []) (map g xs) in
    let last = picks_wider row (sum ∷ []) (run (w + 4) (length xs)) (map g xs) (subst (λ r. Picks r (run (w + 4) (length xs)) (map g xs)) turned (run_picks g pre xs (w + 4) pre_long)) in
    let first = picks_wider row (sum ∷ []) (cell_places 0 k) cells (pick_cells rl rs rh row 0 k box e (all_ends_at rl rs rh [] tail 0 box refl)) in
    let at_a = at_more row (sum ∷ []) w a (at_past cells tail 0 w a (omega (arith, cells_long)) refl) in
    let at_b = at_more row (sum ∷ []) (w + 1) b (at_past cells tail 1 (w + 1) b (omega (arith, cells_long)) refl) in
    let at_sum = at_past row (sum ∷ []) 0 (w + 4 + length xs) sum (omega (arith, tail_long)) refl in
    ap (kept (cell_places 0 k ++ (w ∷ (w + 1) ∷ (w + 4 + length xs) ∷ run (w + 4) (length xs)))) new
    ∙ kept_are whole (cell_places 0 k ++ (w ∷ (w + 1) ∷ (w + 4 + length xs) ∷ run (w + 4) (length xs))) (cells ++ (a ∷ b ∷ sum ∷ map g xs))
    (picks_more whole (cell_places 0 k) (w ∷ (w + 1) ∷ (w + 4 + length xs) ∷ run (w + 4) (length xs)) cells (a ∷ b ∷ sum ∷ map g xs) first (at_a, (at_b, (at_sum, last))))

module _ (by : KeyReading) where
  abbrev c : ℕ
  c = length by.ks

  abbrev n : ℕ
  n = 3 * c + 3

  abbrev wide : RangeRow → List Value
  wide r = group.wide by r

  abbrev surely : RangeRow → Bool
  surely r = all_certain (by.keys r.cells)

  abbrev pub surely_least : RangeRow → Bool
  surely_least r = all_certain (by.keys r.cells) && nat_le 1 r.annot.least

  abbrev pub guessed : RangeRow → Bool
  guessed r = nat_le 1 r.annot.guess

  -- the added columns by their places
  pub new_at : (r : RangeRow) → IsRangeRow by.ks r → (At (wide r) n (counted (surely_least r)) × At (wide r) (n + 1) (counted (guessed r)) × At (wide r) (n + 2) (value.Int (pos (if surely r then 0 else r.annot.most))) × At (wide r) (n + 3) (counted (surely r)))
  new_at r v =
      let row_long = coded_long rl rs rh cl cg cm c r.cells r.annot (cells_length IsRangeOf by.ks r.cells v.cells) in
      let new = counted (surely_least r) ∷ counted (guessed r) ∷ value.Int (pos (if surely r then 0 else r.annot.most)) ∷ counted (surely r) ∷ [] in (
        at_past (encode_row r) new 0 n _ (omega (arith, row_long)) refl,
        at_past (encode_row r) new 1 (n + 1) _ (omega (arith, row_long)) refl,
        at_past (encode_row r) new 2 (n + 2) _ (omega (arith, row_long)) refl,
        at_past (encode_row r) new 3 (n + 3) _ (omega (arith, row_long)) refl,
      )

  -- the greatest of a column of flags
  pub max_flag : (m : ℕ) (t : RangeRow → Bool) → ((r : RangeRow) → IsRangeRow by.ks r → At (wide r) m (counted (t r))) → (g : RangeRow) (gs : Bounded) → IsRelation by.ks (g ∷ gs) → plain_aggregate (map wide (g ∷ gs)) (Max m) ≡ counted (list_any t (g ∷ gs))
  max_flag m t at g gs v =
      ap greatest (map-map wide (λ row. value_at row m) (g ∷ gs) ∙ map_valid (IsRangeRow by.ks) (λ r. value_at (wide r) m) (λ r. counted (t r)) (g ∷ gs) v (λ r p. ap (λ o. unwrap_or o (value.Int (pos 0))) (at r p)))
      ∙ greatest_counted t g gs

  -- a group's row: its box, its triple, and the further aggregates over the rows with what they add
  abbrev pub first_row : List PAgg → Bounded → List Value
  first_row more rows = encode_cells (hull_of (map (λ r. by.keys r.cells) rows)) ++ (encode_counts (group_counts by.keys rows) ++ map (plain_aggregate (map wide rows)) more)

  abbrev pub grouped : List Value → Bounded → Bounded
  grouped key rows = filter (λ r. same_row key (guesses (by.keys r.cells))) rows

  -- the most copies of rows with unsure keys
  abbrev pub unsure_most : Bounded → ℕ
  unsure_most rows = most_of (filter (λ r. not (surely r)) rows)

  -- a group's box, the parts of its triple, and the further aggregates
  abbrev pub parts_row : List PAgg → Bounded → List Value
  parts_row more rows =
      encode_cells (hull_of (map (λ r. by.keys r.cells) rows)) ++ (counted (list_any surely_least rows) ∷ counted (list_any guessed rows) ∷ value.Int (pos (unsure_most rows)) ∷ counted (list_any surely rows) ∷ map (plain_aggregate (map wide rows)) more)

  -- the aggregates over a group's rows are these
  pub parts_are : (more : List PAgg) (g : RangeRow) (gs : Bounded) → IsRelation by.ks (g ∷ gs) → encode_cells (hull_of (map (λ r. by.keys r.cells) (g ∷ gs))) ++ map (plain_aggregate (map wide (g ∷ gs))) (first_aggs n more) ≡ parts_row more (g ∷ gs)
  parts_are more g gs v =
      let all = g ∷ gs in
      let box = hull_of (map (λ r. by.keys r.cells) all) in
      let agg = plain_aggregate (map wide all) in
      let l = max_flag n surely_least (λ r p. (new_at r p).0) g gs v in
      let s = max_flag (n + 1) guessed (λ r p. (new_at r p).1) g gs v in
      let u = sum_column (IsRangeRow by.ks) wide (n + 2) (λ r. if surely r then 0 else r.annot.most) (λ r p. (new_at r p).2) (λ rs. sum_by (λ r. r.annot.most) (filter (λ r. not (surely r)) rs)) refl (sum_failing surely (λ r. r.annot.most)) all v in
      let o = max_flag (n + 3) surely (λ r p. (new_at r p).3) g gs v in
      λ i. encode_cells box ++ (l i ∷ s i ∷ value.Int (u i) ∷ o i ∷ map agg more)

  each_first : (more : List PAgg) (g : RangeRow) (gs : Bounded) → IsRelation by.ks (g ∷ gs) → kept (cell_places 0 by.k ++ (3 * by.k ∷ (3 * by.k + 1) ∷ (3 * by.k + 4 + length more) ∷ run (3 * by.k + 4) (length more))) (extended (Add (Column (3 * by.k + 2)) (Column (3 * by.k + 3))) (encode_cells (hull_of (map (λ r. by.keys r.cells) (g ∷ gs))) ++ map (plain_aggregate (map wide (g ∷ gs))) (first_aggs n more))) ≡ first_row more (g ∷ gs)
  each_first more g gs v =
      let all = g ∷ gs in
      let box = hull_of (map (λ r. by.keys r.cells) all) in
      let last = λ (row : List Value). kept (cell_places 0 by.k ++ (3 * by.k ∷ (3 * by.k + 1) ∷ (3 * by.k + 4 + length more) ∷ run (3 * by.k + 4) (length more))) (extended (Add (Column (3 * by.k + 2)) (Column (3 * by.k + 3))) row) in
      ap last (parts_are more g gs v)
      ∙ finish by.k box (counted (list_any surely_least all)) (counted (list_any guessed all)) (unsure_most all) (some_of surely all) (plain_aggregate (map wide all)) more
      (hull_long (λ r. by.keys r.cells) by.k g gs (all_from (IsRangeRow by.ks) (λ r. length (by.keys r.cells) ≡ by.k) all by.long v))

  -- the rows with what they add to the triples
  pub wide_rows : (ts : List Rows) (p : PlanTree) (rows : Bounded) → IsRelation by.ks rows → GivesEncoded ts p rows → plain_rows (extend_all (group_columns c by.k) p) ts ≡ map wide rows
  wide_rows ts p rows ok g =
      rows-extend_all (group_columns c by.k) p ts
      ∙ ap (map (grow (group_columns c by.k))) g
      ∙ map-map encode_row (grow (group_columns c by.k)) rows
      ∙ map_valid (IsRangeRow by.ks) (λ r. grow (group_columns c by.k) (encode_row r)) wide rows ok (group.grown by)

  -- a group's row before the last steps
  abbrev pub box_row : List PAgg → Bounded → List Value → List Value
  box_row more rows key =
      encode_cells (hull_of (map (λ r. by.keys r.cells) (grouped key rows))) ++ map (plain_aggregate (map wide (grouped key rows))) (first_aggs n more)

  -- the rows of the boxes
  pub boxed_rows : (ts : List Rows) (p : PlanTree) (more : List PAgg) (rows : Bounded) → IsRelation by.ks rows → GivesEncoded ts p rows → plain_rows (boxes by.k (first_aggs n more) (extend_all (group_columns c by.k) p)) ts ≡ map (box_row more rows) (guessed_keys by.keys rows)
  boxed_rows ts p more rows ok g =
      boxes_rows (IsRangeRow by.ks) wide (λ r. by.keys r.cells) by.k (group.wide_there by) by.long (first_aggs n more) ts (extend_all (group_columns c by.k) p) rows ok (wide_rows ts p rows ok g)

  -- The rows of the first grouping.
  pub first_rows : (ts : List Rows) (p : PlanTree) (more : List PAgg) (rows : Bounded) → IsRelation by.ks rows → GivesEncoded ts p rows → plain_rows (first_grouping c by.k more p) ts ≡ map (λ key. first_row more (grouped key rows)) (guessed_keys by.keys rows)
  first_rows ts p more rows ok g =
      let places = cell_places 0 by.k ++ (3 * by.k ∷ (3 * by.k + 1) ∷ (3 * by.k + 4 + length more) ∷ run (3 * by.k + 4) (length more)) in
      let sum = Add (Column (3 * by.k + 2)) (Column (3 * by.k + 3)) in
      ap (λ rs. map (kept places) (map (extended sum) rs)) (boxed_rows ts p more rows ok g)
      ∙ ap (map (kept places)) (map-map (box_row more rows) (extended sum) (guessed_keys by.keys rows))
      ∙ map-map (λ key. extended sum (box_row more rows key)) (kept places) (guessed_keys by.keys rows)
      ∙ map_groups (λ r. guesses (by.keys r.cells)) rows (λ key. kept places (extended sum (box_row more rows key))) (λ key. first_row more (grouped key rows))
      (λ key some.
      (let all = subst (λ ss. AllByRecursion (IsRangeRow by.ks) ss) some.is (all_filter (IsRangeRow by.ks) (λ r. same_row key (guesses (by.keys r.cells))) rows ok) in
      subst (λ ss. kept places (extended sum (encode_cells (hull_of (map (λ r. by.keys r.cells) ss)) ++ map (plain_aggregate (map wide ss)) (first_aggs n more))) ≡ first_row more ss) (sym some.is)
      (each_first more some.first some.others all)))

  -- each list of guessed keys gives a row
  pub all_present : (aggs : List Agg) (rows : Bounded) → IsRelation by.ks rows → bounded.group_by by.keys aggs rows ≡ map (output by.keys aggs rows) (guessed_keys by.keys rows)
  all_present aggs rows ok =
      let keys_of = λ (r : RangeRow). guesses (by.keys r.cells) in
      present_map (λ key. 0 < copies key (map keys_of rows)) (output by.keys aggs rows) (guessed_keys by.keys rows) (all_occur keys_of rows)
      (λ key o.
      (let some = some_with keys_of key rows o in
      let all = subst (λ ss. AllByRecursion (IsRangeRow by.ks) ss) some.is (all_filter (IsRangeRow by.ks) (λ r. same_row key (guesses (by.keys r.cells))) rows ok) in
      subst (λ ss. 1 ≤ (group_counts by.keys ss).most) (sym some.is) (hull_most by.keys by.ks some.first some.others all)))

-- Distinct's plan gives the rows of the bounded operator.
pub distinct_gives : (ks : List Kind) (ts : List Rows) (p : PlanTree) (rows : Bounded) → IsRelation ks rows → GivesEncoded ts p rows → GivesEncoded ts (plans.distinct_plan (length ks) p) (bounded.distinct_rows rows)
distinct_gives ks ts p rows ok g =
    let cells = λ (r : List Span). r in
    let out = output cells [] rows in
    first_rows (all_cells ks) ts p [] rows ok g
    ∙ (λ i. map (λ key. encode_cells (sym (append-nil (hull_of (map (λ r. r.cells) (filter (λ r. same_row key (guesses r.cells)) rows)))) i) ++ encode_counts (group_counts cells (filter (λ r. same_row key (guesses r.cells)) rows))) (guessed_keys cells rows))
    ∙ sym (map-map out encode_row (guessed_keys cells rows))
    ∙ ap encode (sym (all_present (all_cells ks) [] rows ok))
