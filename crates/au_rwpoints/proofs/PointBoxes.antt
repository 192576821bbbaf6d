-- The points as boxes: their rows, their kinds and their numbers.
use Rattle.std.specs.Prelude.{◌≡◌, ℕ, zero, suc, ◌+◌, ◌*◌, List, [], ◌∷◌, ◌++◌, filter, length, map, flat_map, pos, Some, option_and_then}
use Rattle.std.specs.List.{AllByRecursion, AllZip, list_any}
use Rattle.std.proofs.Common.{arith, refl, sym, ◌∙◌, ap, subst, append_assoc}
use Rattle.std.proofs.lemmas.List.{length-append, length-map}
use Rattle.au_value.specs.declared.kinds.Kind.{Kind}
use Rattle.au_value.specs.declared.kinds.Kind.TheVariants as kind
use Rattle.au_value.specs.declared.value.Value.{Value}
use Rattle.au_value.specs.declared.value.Value.TheVariants as value
use Rattle.au_value.specs.Lists.{distinct}
use Rattle.au_value.specs.Ranges.{IsRangeOf, certain, guesses}
use Rattle.au_expr.specs.Figures.{Fit}
use Rattle.au_expr.proofs.Fits.{fit_both}
use Rattle.au_algebra.specs.Bounded.{RangeRow, Bounded, guessed_keys, hull_of}
use Rattle.au_algebra.specs.Laws.{IsRangeRow, IsRelation}
use Rattle.au_algebra.specs.Lists.{same_row}
use Rattle.au_algebra.specs.Ordinary.{Rows}
use Rattle.au_algebra.specs.Typing.{all_kinds}
use Rattle.au_algebra.proofs.Copies.{same_row_is}
use Rattle.au_algebra.proofs.Each.{all_filter, all_from}
use Rattle.au_plain.specs.declared.plan.PAgg.{PAgg}
use Rattle.au_plain.specs.Meaning.{extended, kept, plain_aggregate, plain_rows}
use Rattle.au_plain.specs.PlanKinds.{plain_agg_kind, plan_kinds}
use Rattle.au_plain.specs.PlanNumbers.{group_numbers, magnitudes, plan_numbers, term_numbers}
use Rattle.au_plain.specs.Plans.{PlanTree, Extend, extend_all}
use Rattle.au_encode.specs.Encode.{encode_cells, encode_counts, encoded_kinds, triple_kinds}
use Rattle.au_combine.specs.Boxes.{box_aggs, boxes, sg_places}
use Rattle.au_combine.proofs.BoxKinds.{boxes_kinds}
use Rattle.au_combine.proofs.BoxPlaces.{run_picks}
use Rattle.au_combine.proofs.BoxRows.{boxes_rows, hull_long}
use Rattle.au_combine.proofs.Grouping.{map_groups}
use Rattle.au_combine.proofs.RowsApart.{guesses-hull}
use Rattle.au_rwexpr.specs.Cells.{run}
use Rattle.au_rwexpr.specs.Counts.{one_term}
use Rattle.au_rwexpr.proofs.Allowed.{all_of}
use Rattle.au_rwexpr.proofs.Coded.{own, rh, rl, rs}
use Rattle.au_rwexpr.proofs.Flags.{counted}
use Rattle.au_rwexpr.proofs.Gives.{GivesEncoded, HasKinds, kinds-extend, kinds-keep, map-map, same_map}
use Rattle.au_rwexpr.proofs.Picks.{Picks, all_ends_long, coded_long, kept_are, picks_more, picks_wider}
use Rattle.au_rwexpr.proofs.Places.{At, EndsOfAll, all_ends, all_ends_at, all_ends_more, at_more, at_past}
use Rattle.au_rwexpr.proofs.PlanNumbersOf.{fit_all}
use Rattle.au_rwgroup.specs.Groups.{group_columns}
use Rattle.au_rwgroup.proofs.FirstGroup as first
use Rattle.au_rwgroup.proofs.FirstKinds.{four, wide_kinds}
use Rattle.au_rwgroup.proofs.FirstNumbers.{Held, IsEnd, ends_numbers, wider_fits}
use Rattle.au_rwgroup.proofs.FirstRows.{guessed, max_flag, new_at, surely_least, wide_rows}
use Rattle.au_rwgroup.proofs.KeyReading.{Keys, KeyReading, counts_in}
use Rattle.au_points.proofs.PointBasics.{certain_guesses, certain_ranges}
use Rattle.au_rwpoints.specs.PointPlan.{point_aggs, point_boxes, point_places}
use Rattle.au_rwpoints.specs.RowPlans.{guess_places}
use Rattle.au_rwpoints.proofs.RowPlans.{guess_cells, guess_kinds, pick_guesses}

-- ---- the reading of keys

-- the boxes are the points, and each stands for one group at most
abbrev pub by_points : Keys → KeyReading
by_points of = record {
  ks = of.ks;
  k = of.k;
  keys = of.keys;
  long = of.long;
  shifted = of.shifted;
  kks = of.kks;
  kinded = of.kinded;
  box = λ key rows. map certain key;
  most = λ rows. 1;
  box_long = λ key g gs ok e. length-map key certain ∙ ap length e ∙ length-map (of.keys g.cells) (λ r. r.sg) ∙ of.long g ok.0;
  box_kinded = λ key g gs ok e. subst (λ q. AllZip IsRangeOf of.kks (map certain q)) (sym e) (certain_ranges of.kks (of.keys g.cells) (of.kinded g ok.0));
  box_guess = λ key g gs ok e. certain_guesses key;
}

-- ---- the places

-- what is kept of a row of k hulls with two counts and further columns, with one more behind them
module _ {A X B : Type 0} (l s h : X → A) (k : ℕ) (xs : List X) (a b y : A) (g : B → A) (ms : List B) (long : length xs ≡ k) where
  abbrev cells : List A
  cells = all_ends l s h xs

  abbrev row : List A
  row = cells ++ (a ∷ b ∷ map g ms)

  abbrev whole : List A
  whole = row ++ y ∷ []

  pub point_picks : Picks whole (point_places k (length ms)) (all_ends s s s xs ++ (a ∷ b ∷ y ∷ map g ms))
  point_picks =
      let w = 3 * k in
      let m = length ms in
      let tail = a ∷ b ∷ map g ms in
      let cells_long : length cells ≡ w = all_ends_long l s h xs ∙ ap (λ n. 3 * n) long in
      let row_long : length row ≡ w + 2 + m = omega (arith, length-append cells tail, cells_long, length-map ms g) in
      let pre = cells ++ (a ∷ b ∷ []) in
      let pre_long : length pre ≡ w + 2 = omega (arith, length-append cells (a ∷ b ∷ []), cells_long) in
      let turned : pre ++ map g ms ≡ row = append_assoc cells (a ∷ b ∷ []) (map g ms) in
      let last = picks_wider row (y ∷ []) (run (w + 2) m) (map g ms) (subst (λ r. Picks r (run (w + 2) m) (map g ms)) turned (run_picks g pre ms (w + 2) pre_long)) in
      picks_more whole (guess_places 0 k) (w ∷ (w + 1) ∷ (w + 2 + m) ∷ run (w + 2) m) (all_ends s s s xs) (a ∷ b ∷ y ∷ map g ms)
      (pick_guesses l s h whole 0 k xs long (all_ends_more l s h row (y ∷ []) 0 xs (all_ends_at l s h [] tail 0 xs refl))) (
        at_more row (y ∷ []) w a (at_past cells tail 0 w a (omega (arith, cells_long)) refl),
        (
          at_more row (y ∷ []) (w + 1) b (at_past cells tail 1 (w + 1) b (omega (arith, cells_long)) refl),
          (at_past row (y ∷ []) 0 (w + 2 + m) y (omega (arith, row_long)) refl, last),
        ),
      )

-- ---- the rows

module _ (of : Keys) (more : List PAgg) (rows : Bounded) (ok : IsRelation of.ks rows) where
  abbrev by : KeyReading
  by = by_points of

  abbrev c : ℕ
  c = length of.ks

  abbrev guess : RangeRow → List Value
  guess r = guesses (of.keys r.cells)

  abbrev group_of : List Value → Bounded
  group_of key = filter (λ r. same_row key (guess r)) rows

  abbrev wide : RangeRow → List Value
  wide r = first.wide by r

  abbrev over : List PAgg
  over = point_aggs (3 * c + 3) more

  -- a hull with the aggregates, and the point with its triple and what is kept
  abbrev hull_row : Bounded → List Value
  hull_row rs = encode_cells (hull_of (map (λ r. of.keys r.cells) rs)) ++ map (plain_aggregate (map wide rs)) over

  abbrev pub point_row : List Value → Bounded → List Value
  point_row key rs = encode_cells (map certain key) ++ (encode_counts (counts_in by rs) ++ map (plain_aggregate (map wide rs)) more)

  each_point : (key : List Value) (g : RangeRow) (gs : Bounded) → IsRelation of.ks (g ∷ gs) → key ≡ guess g → kept (point_places of.k (length more)) (extended one_term (hull_row (g ∷ gs))) ≡ point_row key (g ∷ gs)
  each_point key g gs v is =
      let all = g ∷ gs in
      let hull = hull_of (map (λ r. of.keys r.cells) all) in
      let longs = all_from (IsRangeRow of.ks) (λ r. length (of.keys r.cells) ≡ of.k) all of.long v in
      let long = hull_long (λ r. of.keys r.cells) of.k g gs longs in
      let agg = plain_aggregate (map wide all) in
      let a = counted (list_any (surely_least by) all) in
      let b = counted (list_any (guessed by) all) in
      let one = value.Int (pos 1) in
      let surely = max_flag by (3 * c + 3) (surely_least by) (λ r p. (new_at by r p).0) g gs v in
      let there = max_flag by (3 * c + 3 + 1) (guessed by) (λ r p. (new_at by r p).1) g gs v in
      let named : guesses hull ≡ key = guesses-hull (λ r. of.keys r.cells) of.k g gs longs ∙ sym is in
      (λ i. kept (point_places of.k (length more)) (extended one_term (encode_cells hull ++ (surely i ∷ there i ∷ map agg more))))
      ∙ kept_are (whole rl rs rh of.k hull a b one agg more long) (point_places of.k (length more)) (all_ends rs rs rs hull ++ (a ∷ b ∷ one ∷ map agg more))
      (point_picks rl rs rh of.k hull a b one agg more long)
      ∙ (λ i. (guess_cells hull ∙ ap (λ q. encode_cells (map certain q)) named) i ++ (a ∷ b ∷ one ∷ map agg more))

  -- The points have these rows.
  pub points_are : (ts : List Rows) (p : PlanTree) → GivesEncoded ts p rows → plain_rows (point_boxes c of.k more p) ts ≡ map (λ key. point_row key (group_of key)) (guessed_keys of.keys rows)
  points_are ts p g =
      let places = point_places of.k (length more) in
      let keys = guessed_keys of.keys rows in
      ap (λ rs. map (kept places) (map (extended one_term) rs))
      (boxes_rows (IsRangeRow of.ks) wide (λ r. of.keys r.cells) of.k (first.wide_there by) of.long over ts (extend_all (group_columns c of.k) p) rows ok (wide_rows by ts p rows ok g))
      ∙ ap (map (kept places)) (map-map (λ key. hull_row (group_of key)) (extended one_term) keys)
      ∙ map-map (λ key. extended one_term (hull_row (group_of key))) (kept places) keys
      ∙ map_groups guess rows (λ key. kept places (extended one_term (hull_row (group_of key)))) (λ key. point_row key (group_of key))
      (λ key some.
      (let all = subst (λ ss. AllByRecursion (IsRangeRow of.ks) ss) some.is (all_filter (IsRangeRow of.ks) (λ r. same_row key (guess r)) rows ok) in
      subst (λ ss. kept places (extended one_term (hull_row ss)) ≡ point_row key ss) (sym some.is)
      (each_point key some.first some.others all (same_row_is key (guess some.first) some.key_is))))

-- ---- the kinds

-- The points have the kinds of their keys and of a triple, and then those of the further aggregates.
pub points_typed : (tk : List (List Kind)) (ks js : List Kind) (k : ℕ) (more : List PAgg) (es : List Kind) (p : PlanTree) → length js ≡ k → length es ≡ length more → EndsOfAll own own own (encoded_kinds ks) 0 js → all_kinds (map (plain_agg_kind (encoded_kinds ks ++ four)) more) ≡ Some es → HasKinds tk p ks → plan_kinds tk (point_boxes (length ks) k more p) ≡ Some (triple_kinds js ++ (kind.Int ∷ kind.Int ∷ kind.Int ∷ es))
points_typed tk ks js k more es p e el keys further h =
    let int = kind.Int in
    let n = 3 * length ks + 3 in
    let row = encoded_kinds ks in
    let wide = row ++ four in
    let long = coded_long own own own own own own (length ks) ks int refl in
    let inner = extend_all (group_columns (length ks) k) p in
    let at0 : At wide n int = at_past row four 0 n int (omega (arith, long)) refl in
    let at1 : At wide (n + 1) int = at_past row four 1 (n + 1) int (omega (arith, long)) refl in
    let all = int ∷ int ∷ es in
    let over = point_aggs n more in
    let over_kinds : all_kinds (map (plain_agg_kind wide) over) ≡ Some all =
    (λ j. option_and_then (λ a. option_and_then (λ rest. Some (a ∷ rest)) (option_and_then (λ b. option_and_then (λ rest. Some (b ∷ rest)) (further j)) (at1 j))) (at0 j)) in
    let boxed = boxes_kinds wide tk inner k js over all e (ap (λ q. suc (suc q)) el) (all_ends_more own own own row four 0 js keys) over_kinds (wide_kinds tk ks js k p e keys h) in
    let hulls = triple_kinds js ++ all in
    let picks = subst (λ q. Picks (hulls ++ int ∷ []) (point_places k q) (triple_kinds js ++ (int ∷ int ∷ int ∷ es))) el
    (subst (λ q. Picks ((triple_kinds js ++ (int ∷ int ∷ q)) ++ int ∷ []) (point_places k (length es)) (triple_kinds js ++ (int ∷ int ∷ int ∷ q))) (same_map es)
    (subst (λ q. Picks (whole own own own k js int int int own es e) (point_places k (length es)) (q ++ (int ∷ int ∷ int ∷ map own es))) (guess_kinds js)
    (point_picks own own own k js int int int own es e))) in
    kinds-keep tk (point_places k (length more)) (Extend one_term (boxes k over inner)) (hulls ++ int ∷ []) (triple_kinds js ++ (int ∷ int ∷ int ∷ es))
    (kinds-extend tk one_term (boxes k over inner) hulls int boxed refl) picks

-- ---- the numbers

-- a grouping makes no number where its aggregates are ends
ends_fit : (places : List ℕ) (over : List PAgg) (rows : Rows) → AllByRecursion IsEnd over → Fit (group_numbers places over rows)
ends_fit places over rows ends =
    let own = λ (key : List Value). filter (λ row. same_row key (kept places row)) rows in
    fit_all (λ key. flat_map (magnitudes (own key)) over) (distinct same_row (map (kept places) rows))
    (all_of (λ key. Fit (flat_map (magnitudes (own key)) over)) (λ key. subst Fit (sym (ends_numbers (own key) over ends)) refl) (distinct same_row (map (kept places) rows)))

box_ends : (i k : ℕ) (more : List PAgg) → AllByRecursion IsEnd more → AllByRecursion IsEnd (box_aggs i k ++ more)
box_ends i zero more h = h
box_ends i (suc k) more h = (tt, (tt, box_ends (i + 3) k more h))

-- The points make no number that does not fit.
pub points_fit : (of : Keys) (more : List PAgg) (rows : Bounded) → AllByRecursion IsEnd more → IsRelation of.ks rows → (ts : List Rows) (p : PlanTree) → GivesEncoded ts p rows → AllByRecursion (Held (by_points of)) rows → Fit (plan_numbers p ts) → Fit (plan_numbers (point_boxes (length of.ks) of.k more p) ts)
points_fit of more rows ends ok ts p g held np =
    let inner = extend_all (group_columns (length of.ks) of.k) p in
    let over = point_aggs (3 * length of.ks + 3) more in
    let groups = boxes of.k over inner in
    let all = box_aggs 0 of.k ++ over in
    fit_both (plan_numbers groups ts) (flat_map (term_numbers one_term) (plain_rows groups ts))
    (fit_both (plan_numbers inner ts) (group_numbers (sg_places 0 of.k) all (plain_rows inner ts)) (wider_fits (by_points of) ts p rows ok g held np)
    (ends_fit (sg_places 0 of.k) all (plain_rows inner ts) (box_ends 0 of.k over (tt, (tt, ends)))))
    (fit_all (term_numbers one_term) (plain_rows groups ts) (all_of (λ row. Fit (term_numbers one_term row)) (λ row. refl) (plain_rows groups ts)))
