-- The numbers of the first grouping fit where those of the rows, of the triples and of the further aggregates do.
use Rattle.std.specs.Prelude.{◌≡◌, ◌≤◌, ◌<◌, ℕ, zero, suc, ◌+◌, ◌*◌, Bool, not, List, [], ◌∷◌, ◌++◌, length, map, filter, flat_map, ℤ, pos, sum_by, if◌then◌else◌}
use Rattle.std.specs.List.{AllByRecursion, list_any}
use Rattle.std.proofs.Common.{arith, refl, sym, ◌∙◌, ap, subst}
use Rattle.au_value.specs.declared.kinds.Kind.{Kind}
use Rattle.au_value.specs.declared.value.Value.{Value}
use Rattle.au_value.specs.declared.value.Value.TheVariants as value
use Rattle.au_value.specs.Ranges.{Span, IsRangeOf, all_certain, guesses}
use Rattle.au_expr.specs.Figures.{Fit}
use Rattle.au_expr.proofs.Fits.{fit_both, fit_parts}
use Rattle.au_algebra.specs.declared.query.Agg.{Agg}
use Rattle.au_algebra.specs.declared.query.Agg.TheVariants as agg
use Rattle.au_algebra.specs.Fits.{triple_numbers}
use Rattle.au_algebra.specs.Lists.{same_row, copies}
use Rattle.au_algebra.specs.Ordinary.{Rows}
use Rattle.au_algebra.specs.Bounded.{RangeRow, Bounded, hull_of, group_counts, group_by, distinct_rows, guessed_keys, output, some_of}
use Rattle.au_algebra.specs.Laws.{IsRangeRow, IsRelation}
use Rattle.au_algebra.proofs.Each.{all_filter, all_from}
use Rattle.au_plain.specs.declared.expr.Comparison2.TheVariants.{Equal, Less}
use Rattle.au_plain.specs.declared.plan.PAgg.{PAgg}
use Rattle.au_plain.specs.declared.plan.PAgg.TheVariants.{Sum, Min, Max}
use Rattle.au_plain.specs.PTerms.{PTerm, Add, And, Column}
use Rattle.au_plain.specs.Plans.{PlanTree, extend_all}
use Rattle.au_plain.specs.Meaning.{plain_rows, plain_aggregate}
use Rattle.au_plain.specs.PlanNumbers.{plan_numbers, term_numbers, group_numbers, magnitudes}
use Rattle.au_encode.specs.Encode.{encode_row, encode_cells}
use Rattle.au_encode.proofs.Decoded.{cells_length}
use Rattle.au_encode.proofs.HeldCells.{FitRow, AllFitRows}
use Rattle.au_rwexpr.specs.Adding.{grow_numbers}
use Rattle.au_rwexpr.specs.Counts.{one_term, positive, zero_term}
use Rattle.au_rwexpr.specs.Flatten.{lo, sg, hi}
use Rattle.au_rwexpr.proofs.Allowed.{triple_of, fits_now, lower_fits, all_both, all_of}
use Rattle.au_rwexpr.proofs.Careful.{careful, Fits, all_careful, careful_grow, column_fits, compare_fits, and_fits, case_fits, add_fits}
use Rattle.au_rwexpr.proofs.Coded.{rl, rs, rh, cl, cg, cm}
use Rattle.au_rwexpr.proofs.Columns.{adds}
use Rattle.au_rwexpr.proofs.Gives.{GivesEncoded}
use Rattle.au_encode.proofs.HeldCells.{AllFit}
use Rattle.au_rwexpr.proofs.OnNumbers.{lo_fits, hi_fits}
use Rattle.au_rwexpr.proofs.OnValues.{column_has}
use Rattle.au_rwexpr.proofs.Picks.{coded_triple, all_ends_long}
use Rattle.au_rwexpr.proofs.Places.{at_past, EndsOfAll}
use Rattle.au_rwexpr.proofs.PlanNumbersOf.{all_fit, fit_all, all_made, numbers-extend_all}
use Rattle.au_combine.specs.Boxes.{sg_places, box_aggs, boxes}
use Rattle.au_combine.proofs.BoxRows.{keys_are, hull_long}
use Rattle.au_combine.proofs.CombineNumbers.{box_magnitudes, sum_magnitudes}
use Rattle.au_combine.proofs.Grouping.{all_occur, some_with, numbers_made}
use Rattle.au_rwexpr.proofs.Flags.{counted, sum_failing}
use Rattle.au_rwgroup.specs.Groups.{sure, all_sure, group_columns, first_aggs, first_grouping, distinct_plan}
use Rattle.au_rwgroup.specs.GroupPlan.{kept_for}
use Rattle.au_rwgroup.proofs.FirstGroup as group
use Rattle.au_rwgroup.proofs.FirstRows as rows_of
use Rattle.au_rwgroup.proofs.KeyReading.{KeyReading, all_cells}

-- the test of certain ranges fits
pub sure_fits : (row : List Value) (i k : ℕ) (xs : List Span) → length xs ≡ k → EndsOfAll rl rs rh row i xs → AllFit xs → Fits row (all_sure i k)
sure_fits row i zero xs e z f = λ more. refl
sure_fits row i (suc k) [] e z f = let never : ⊥ = omega (arith, e) in absurd never
sure_fits row i (suc zero) (x ∷ xs) e z f = compare_fits row (lo i) (hi i) (lo_fits row i x z.0 f.0) (hi_fits row i x z.0 f.0) Equal
sure_fits row i (suc (suc k)) (x ∷ xs) e z f =
    and_fits row (sure i) (all_sure (i + 3) (suc k))
    (compare_fits row (lo i) (hi i) (lo_fits row i x z.0 f.0) (hi_fits row i x z.0 f.0) Equal)
    (sure_fits row (i + 3) (suc k) xs (omega (arith, e)) z.1 f.1)

-- the test of a count fits
pub positive_fits : (row : List Value) (e : PTerm) → Fits row e → Fits row (positive e)
positive_fits row e f = compare_fits row zero_term e (λ more. refl) f Less

-- an end, which is no sum
abbrev pub IsEnd : PAgg → Type 0
IsEnd (Sum c) = ⊥
IsEnd (Min c) = Unit {0}
IsEnd (Max c) = Unit {0}

-- the ends make no number
pub ends_numbers : (rows : Rows) (more : List PAgg) → AllByRecursion IsEnd more → flat_map (magnitudes rows) more ≡ []
ends_numbers rows [] h = refl
ends_numbers rows (Sum c ∷ more) h = absurd h.0
ends_numbers rows (Min c ∷ more) h = ends_numbers rows more h.1
ends_numbers rows (Max c ∷ more) h = ends_numbers rows more h.1

-- what holds of each made item
of_made : {A B : Type 0} (Q : B → Type 0) (g : A → B) (xs : List A) → AllByRecursion Q (map g xs) → AllByRecursion (λ x. Q (g x)) xs
of_made Q g [] h = tt
of_made Q g (x ∷ xs) h = (h.0, of_made Q g xs h.1)

-- what the first grouping keeps are ends
pub kept_ends : (aggs : List Agg) → AllByRecursion IsEnd (flat_map kept_for aggs)
kept_ends [] = tt
kept_ends (agg.Sum d ∷ aggs) = kept_ends aggs
kept_ends (agg.Min d ∷ aggs) = (tt, (tt, kept_ends aggs))
kept_ends (agg.Max d ∷ aggs) = (tt, (tt, kept_ends aggs))

left_le : (a b : ℕ) → a ≤ a + b
left_le a b = omega arith

right_le : (a b : ℕ) → b ≤ a + b
right_le a b = omega arith

module _ (by : KeyReading) where
  abbrev c : ℕ
  c = length by.ks

  abbrev n : ℕ
  n = 3 * c + 3

  abbrev wide : RangeRow → List Value
  wide r = group.wide by r

  abbrev surely : RangeRow → Bool
  surely r = all_certain (by.keys r.cells)

  abbrev key_of : RangeRow → List Value
  key_of r = guesses (by.keys r.cells)

  abbrev members : List Value → Bounded → Bounded
  members key rows = filter (λ r. same_row key (guesses (by.keys r.cells))) rows

  abbrev sum : PTerm
  sum = Add (Column (3 * by.k + 2)) (Column (3 * by.k + 3))

  -- the numbers of a row's keys and of its triple fit
  abbrev pub Held : RangeRow → Type 0
  Held r = AllFit (by.keys r.cells) × Fit (triple_of r)

  -- the numbers of a group's triple
  abbrev pub counts_of : Bounded → List ℤ
  counts_of rows = pos (group_counts by.keys rows).least ∷ pos (group_counts by.keys rows).guess ∷ pos (group_counts by.keys rows).most ∷ []

  -- the magnitudes of the further aggregates over a group
  abbrev pub kept_numbers : List PAgg → Bounded → List ℤ
  kept_numbers more rows = flat_map (magnitudes (map wide rows)) more

  -- what a row adds fits
  added_fit : (r : RangeRow) → IsRangeRow by.ks r → Held r → Fit (grow_numbers (group_columns c by.k) (encode_row r))
  added_fit r v h =
      let row = encode_row r in
      let w = 3 * c in
      let x = coded_triple rl rs rh cl cg cm c r.cells r.annot (cells_length IsRangeOf by.ks r.cells v.cells) in
      let p = fit_parts (pos r.annot.least ∷ []) (pos r.annot.guess ∷ pos r.annot.most ∷ []) h.1 in
      let q = fit_parts (pos r.annot.guess ∷ []) (pos r.annot.most ∷ []) p.1 in
      let least = column_fits row w (cl r.annot) (column_has row w (cl r.annot) x.lo) p.0 in
      let guess = column_fits row (w + 1) (cg r.annot) (column_has row (w + 1) (cg r.annot) x.sg) q.0 in
      let most = column_fits row (w + 2) (cm r.annot) (column_has row (w + 2) (cm r.annot) x.hi) q.1 in
      let sure = sure_fits row 0 by.k (by.keys r.cells) (by.long r v) (by.shifted r v row 0 (group.cells_there by r v)) h.0 in
      let z : Fits row zero_term = (λ more. refl) in
      let o : Fits row one_term = (λ more. refl) in
      let new = group.new by r in
      let columns = group_columns c by.k in
      let fits : AllByRecursion (Fits row) columns = (
        case_fits row one_term zero_term o z (And (all_sure 0 by.k) (positive (lo w))) (and_fits row (all_sure 0 by.k) (positive (lo w)) sure (positive_fits row (lo w) least)),
        (
          case_fits row one_term zero_term o z (positive (sg w)) (positive_fits row (sg w) guess),
          (case_fits row zero_term (hi w) z most (all_sure 0 by.k) sure, (case_fits row one_term zero_term o z (all_sure 0 by.k) sure, tt)),
        ),
      ) in
      (careful_grow columns row (row ++ new) (adds careful row columns new (all_careful row columns new (group.new_mean by r v) fits))).1

  -- the magnitudes of a group: the most copies of rows with unsure keys, and those of the further aggregates
  group_magnitudes : (more : List PAgg) (rows : Bounded) → IsRelation by.ks rows → flat_map (magnitudes (map wide rows)) (box_aggs 0 by.k ++ first_aggs n more) ≡ pos (rows_of.unsure_most by rows) ∷ kept_numbers more rows
  group_magnitudes more rows v =
      box_magnitudes (map wide rows) 0 by.k (first_aggs n more)
      ∙ (λ i. pos (sum_magnitudes (IsRangeRow by.ks) wide (n + 2) (λ r. if surely r then 0 else r.annot.most) (λ r p. (rows_of.new_at by r p).2) (λ rs. sum_by (λ r. r.annot.most) (filter (λ r. not (surely r)) rs)) refl (sum_failing surely (λ r. r.annot.most)) rows v i) ∷ kept_numbers more rows)

  one_fits : (more : List PAgg) (rows : Bounded) → IsRelation by.ks rows → Fit (counts_of rows) → Fit (kept_numbers more rows) → Fit (flat_map (magnitudes (map wide rows)) (box_aggs 0 by.k ++ first_aggs n more))
  one_fits more rows v t f =
      let counts = group_counts by.keys rows in
      let u = rows_of.unsure_most by rows in
      let o = some_of surely rows in
      let p = fit_parts (pos counts.least ∷ pos counts.guess ∷ []) (pos counts.most ∷ []) t in
      subst (λ ns. Fit ns) (sym (group_magnitudes more rows v))
      (fit_both (pos u ∷ []) (kept_numbers more rows) (lower_fits u (u + o) (left_le u o) p.1) f)

  -- the sum of the last two parts of a group's triple
  parts_fit : (more : List PAgg) (rows : Bounded) → length (hull_of (map (λ r. by.keys r.cells) rows)) ≡ by.k → Fit (counts_of rows) → Fit (term_numbers sum (rows_of.parts_row by more rows))
  parts_fit more rows e t =
      let w = 3 * by.k in
      let counts = group_counts by.keys rows in
      let u = rows_of.unsure_most by rows in
      let o = some_of surely rows in
      let uv = value.Int (pos u) in
      let ov = value.Int (pos o) in
      let box = hull_of (map (λ r. by.keys r.cells) rows) in
      let cells = encode_cells box in
      let row = rows_of.parts_row by more rows in
      let tail = counted (list_any (rows_of.surely_least by) rows) ∷ counted (list_any (rows_of.guessed by) rows) ∷ uv ∷ ov ∷ map (plain_aggregate (map wide rows)) more in
      let cells_long : length cells ≡ w = all_ends_long rl rs rh box ∙ ap (λ m. 3 * m) e in
      let p = fit_parts (pos counts.least ∷ pos counts.guess ∷ []) (pos counts.most ∷ []) t in
      let has_u = column_has row (w + 2) uv (at_past cells tail 2 (w + 2) uv (omega (arith, cells_long)) refl) in
      let has_o = column_has row (w + 3) ov (at_past cells tail 3 (w + 3) ov (omega (arith, cells_long)) refl) in
      fits_now row sum
      (add_fits row (Column (w + 2)) (Column (w + 3)) uv ov has_u has_o (column_fits row (w + 2) uv has_u (lower_fits u (u + o) (left_le u o) p.1))
      (column_fits row (w + 3) ov has_o (lower_fits o (u + o) (right_le u o) p.1)) p.1)

  last_fits : (more : List PAgg) (rows : Bounded) → IsRelation by.ks rows → AllByRecursion (λ key. Fit (counts_of (members key rows))) (guessed_keys by.keys rows) → AllByRecursion (λ row. Fit (term_numbers sum row)) (map (rows_of.box_row by more rows) (guessed_keys by.keys rows))
  last_fits more rows ok counts =
      let occurs = λ (key : List Value). 0 < copies key (map key_of rows) in
      all_made (λ key. occurs key × Fit (counts_of (members key rows))) (λ row. Fit (term_numbers sum row)) (rows_of.box_row by more rows) (guessed_keys by.keys rows)
      (all_both occurs (λ key. Fit (counts_of (members key rows))) (guessed_keys by.keys rows) (all_occur key_of rows) counts)
      (λ key q.
      (let some = some_with key_of key rows q.0 in
      let all = subst (λ ss. AllByRecursion (IsRangeRow by.ks) ss) some.is (all_filter (IsRangeRow by.ks) (λ r. same_row key (guesses (by.keys r.cells))) rows ok) in
      let g = some.first in
      let gs = some.others in
      subst (λ ss. Fit (counts_of ss) → Fit (term_numbers sum (encode_cells (hull_of (map (λ r. by.keys r.cells) ss)) ++ map (plain_aggregate (map wide ss)) (first_aggs n more)))) (sym some.is)
      (λ t. subst (λ row. Fit (term_numbers sum row)) (sym (rows_of.parts_are by more g gs all))
      (parts_fit more (g ∷ gs) (hull_long (λ r. by.keys r.cells) by.k g gs (all_from (IsRangeRow by.ks) (λ r. length (by.keys r.cells) ≡ by.k) (g ∷ gs) by.long all)) t)) q.1))

  -- what is added to the rows makes no number that does not fit
  pub wider_fits : (ts : List Rows) (p : PlanTree) (rows : Bounded) → IsRelation by.ks rows → GivesEncoded ts p rows → AllByRecursion Held rows → Fit (plan_numbers p ts) → Fit (plan_numbers (extend_all (group_columns c by.k) p) ts)
  wider_fits ts p rows ok g held np =
      let columns = group_columns c by.k in
      numbers-extend_all ts columns p np
      (subst (λ rs. AllByRecursion (λ row. Fit (grow_numbers columns row)) rs) (sym g)
      (all_made (λ r. IsRangeRow by.ks r × Held r) (λ row. Fit (grow_numbers columns row)) encode_row rows (all_both (IsRangeRow by.ks) Held rows ok held) (λ r q. added_fit r q.0 q.1)))

  -- The first grouping adds no number that does not fit.
  pub first_fits : (ts : List Rows) (p : PlanTree) (more : List PAgg) (rows : Bounded) → IsRelation by.ks rows → GivesEncoded ts p rows → AllByRecursion Held rows → AllByRecursion (λ key. Fit (counts_of (members key rows))) (guessed_keys by.keys rows) → AllByRecursion (λ key. Fit (kept_numbers more (members key rows))) (guessed_keys by.keys rows) → Fit (plan_numbers p ts) → Fit (plan_numbers (first_grouping c by.k more p) ts)
  first_fits ts p more rows ok g held counts kept np =
      let columns = group_columns c by.k in
      let inner = extend_all columns p in
      let aggs = box_aggs 0 by.k ++ first_aggs n more in
      let groups = boxes by.k (first_aggs n more) inner in
      let all = guessed_keys by.keys rows in
      let each : AllByRecursion (λ key. Fit (flat_map (magnitudes (map wide (members key rows))) aggs)) all =
      all_from (λ key. Fit (counts_of (members key rows)) × Fit (kept_numbers more (members key rows))) (λ key. Fit (flat_map (magnitudes (map wide (members key rows))) aggs)) all
      (λ key q. one_fits more (members key rows) (all_filter (IsRangeRow by.ks) (λ r. same_row key (guesses (by.keys r.cells))) rows ok) q.0 q.1)
      (all_both (λ key. Fit (counts_of (members key rows))) (λ key. Fit (kept_numbers more (members key rows))) all counts kept) in
      let same = keys_are (IsRangeRow by.ks) wide (λ r. by.keys r.cells) by.k (group.wide_there by) by.long in
      let made = numbers_made (IsRangeRow by.ks) wide key_of (sg_places 0 by.k) same aggs rows ok in
      let numbers : Fit (group_numbers (sg_places 0 by.k) aggs (plain_rows inner ts)) =
      subst (λ rs. Fit (group_numbers (sg_places 0 by.k) aggs rs)) (sym (rows_of.wide_rows by ts p rows ok g))
      (subst (λ ns. Fit ns) (sym made) (fit_all (λ key. flat_map (magnitudes (map wide (members key rows))) aggs) all each)) in
      fit_both (plan_numbers groups ts) (flat_map (term_numbers sum) (plain_rows groups ts)) (fit_both (plan_numbers inner ts) (group_numbers (sg_places 0 by.k) aggs (plain_rows inner ts)) (wider_fits ts p rows ok g held np) numbers)
      (subst (λ rs. Fit (flat_map (term_numbers sum) rs)) (sym (rows_of.boxed_rows by ts p more rows ok g))
      (fit_all (term_numbers sum) (map (rows_of.box_row by more rows) all) (last_fits more rows ok counts)))

  -- The same where the further aggregates are ends.
  pub first_fits_ends : (ts : List Rows) (p : PlanTree) (more : List PAgg) (rows : Bounded) → AllByRecursion IsEnd more → IsRelation by.ks rows → GivesEncoded ts p rows → AllByRecursion Held rows → AllByRecursion (λ key. Fit (counts_of (members key rows))) (guessed_keys by.keys rows) → Fit (plan_numbers p ts) → Fit (plan_numbers (first_grouping c by.k more p) ts)
  first_fits_ends ts p more rows ends ok g held counts np =
      let none : (key : List Value) → Fit (kept_numbers more (members key rows)) =
      (λ key. subst (λ ns. Fit ns) (sym (ends_numbers (map wide (members key rows)) more ends)) refl) in
      first_fits ts p more rows ok g held counts (all_of (λ key. Fit (kept_numbers more (members key rows))) none (guessed_keys by.keys rows)) np

  -- The triples of the groups fit where those of the result do.
  pub group_triples : (aggs : List Agg) (rows : Bounded) → IsRelation by.ks rows → Fit (triple_numbers (group_by by.keys aggs rows)) → AllByRecursion (λ key. Fit (counts_of (members key rows))) (guessed_keys by.keys rows)
  group_triples aggs rows ok f =
      of_made (λ r. Fit (triple_of r)) (output by.keys aggs rows) (guessed_keys by.keys rows)
      (all_fit triple_of (map (output by.keys aggs rows) (guessed_keys by.keys rows)) (subst (λ rs. Fit (triple_numbers rs)) (rows_of.all_present by aggs rows ok) f))

  -- the keys of rows whose numbers fit
  pub held_keys : ((xs : List Span) → AllFit xs → AllFit (by.keys xs)) → (rows : Bounded) → AllFitRows rows → AllByRecursion Held rows
  held_keys part rows h = all_from FitRow Held rows (λ r f. (part r.cells f.cells, f.triple)) h

-- Distinct's plan adds no number that does not fit.
pub distinct_fits : (ks : List Kind) (ts : List Rows) (p : PlanTree) (rows : Bounded) → IsRelation ks rows → GivesEncoded ts p rows → AllFitRows rows → Fit (triple_numbers (distinct_rows rows)) → Fit (plan_numbers p ts) → Fit (plan_numbers (distinct_plan (length ks) p) ts)
distinct_fits ks ts p rows ok g held f np =
    let by = all_cells ks in
    first_fits_ends by ts p [] rows tt ok g (held_keys by (λ xs h. h) rows held) (group_triples by [] rows ok f) np
