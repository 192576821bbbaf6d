-- The rows of a strengthened plan are those of the plan that pass each of the tests, in their order.
use Rattle.std.specs.Prelude.{◌≡◌, ℕ, zero, suc, ◌-◌, ◌<◌, ◌≤◌, Bool, true, false, ◌&&◌, cond, List, [], ◌∷◌, ◌++◌, filter, length, map, nat_eq, Some, slice_get, unwrap_or, pos}
use Rattle.std.specs.List.{AllByRecursion, AllZip}
use Rattle.std.proofs.Common.{refl, sym, ◌∙◌, ap, subst, arith}
use Rattle.std.proofs.Math.Bool.{and_assoc, and-true}
use Rattle.std.proofs.lemmas.Bool.{ltb-true, leb-true, not-true, eqb-true, eqb-false}
use Rattle.std.proofs.lemmas.List.Elements.{filter-append}
use Rattle.au_value.specs.declared.kinds.Kind.{Kind}
use Rattle.au_value.specs.declared.value.Value.{Value}
use Rattle.au_value.specs.declared.value.Value.TheVariants.{Int}
use Rattle.au_algebra.specs.Lists.{value_at}
use Rattle.au_algebra.specs.Ordinary.{Rows}
use Rattle.au_algebra.proofs.Each.{all_append, passing}
use Rattle.au_algebra.proofs.Filters.{filter_all, filter_both}
use Rattle.au_plain.specs.PTerms.{PTerm, Column, plain_value}
use Rattle.au_plain.specs.Meaning.{extended, kept, passes, plain_group, plain_rows}
use Rattle.au_plain.specs.PlanKinds.{HaveKinds, plan_kinds}
use Rattle.au_plain.specs.Plans.{PlanTree}
use Rattle.au_plain.specs.Plans as plan
use Rattle.au_passes.specs.Tests.{reads_only, with_columns, defined, renamed, counted_from, movable, staying, tests_hold}
use Rattle.au_passes.specs.Conditions.{condition, conjuncts}
use Rattle.au_plain.specs.Widths.{plan_width}
use Rattle.au_passes.specs.Pushing.{reading_only, reading_more, other_than, before, from, follow, can_follow, below_column, above_column, on_left, on_right, on_both}
use Rattle.au_passes.proofs.Strengthening.{strengthened_by}
use Rattle.au_passes.proofs.Changing.{reads_any, passes_changed, passes_same, front, back, last, past}
use Rattle.au_passes.proofs.FilteredRows.{filter_changed, filter_map_same, pairs, pairs_filtered, every}
use Rattle.au_passes.proofs.Passing.{holds_parted, holds_append, holds_conjuncts, holds_split, filtered_by_rows, passes_condition}
use Rattle.au_passes.proofs.PlanParts.{extend_parts, keep_parts, filter_parts, join_parts, union_parts, group_parts}
use Rattle.au_passes.proofs.Testing.{IsTest, Tests, Free, tests_free, tests_movable, tests_below, tests_left, tests_right, tests_kept}
use Rattle.au_plain.proofs.Widths.{width_is, rows_wide}

-- several tests over another row
holds_changed : (test : ℕ → Bool) (f : ℕ → PTerm) (row old : List Value) → ((i : ℕ) → test i ≡ true → plain_value (f i) row ≡ value_at old i) → (es : List PTerm) → AllByRecursion (λ e. reads_only test e ≡ true) es → tests_hold (map (with_columns f) es) row ≡ tests_hold es old
holds_changed test f row old same [] r = refl
holds_changed test f row old same (e ∷ es) r = λ i. passes_changed test f row old same e r.0 i && holds_changed test f row old same es r.1 i

holds_same : (test : ℕ → Bool) (row old : List Value) → ((i : ℕ) → test i ≡ true → value_at row i ≡ value_at old i) → (es : List PTerm) → AllByRecursion (λ e. reads_only test e ≡ true) es → tests_hold es row ≡ tests_hold es old
holds_same test row old same [] r = refl
holds_same test row old same (e ∷ es) r = λ i. passes_same test row old same e r.0 i && holds_same test row old same es r.1 i

reads_all : (es : List PTerm) → Free es → AllByRecursion (λ e. reads_only (λ i. true) e ≡ true) es
reads_all [] h = tt
reads_all (e ∷ es) h = (reads_any e h.0, reads_all es h.1)

-- a row with a column added
module _ (n : ℕ) (c : PTerm) (row : List Value) (wide : length row ≡ n) where
  abbrev longer : List Value
  longer = extended c row

  other_values : (i : ℕ) → other_than n i ≡ true → value_at row i ≡ value_at longer i
  other_values i h = ap (λ o. unwrap_or o (Int (pos 0))) (sym (past row (plain_value c row) i (λ e. eqb-false i n (not-true (nat_eq i n) h) (e ∙ wide))))

  defined_value : (i : ℕ) (t : Bool) → nat_eq i n ≡ t → plain_value (cond t c (Column i)) row ≡ value_at longer i
  defined_value i true h =
      ap (λ o. unwrap_or o (Int (pos 0))) (sym (last row (plain_value c row)) ∙ ap (slice_get longer) (wide ∙ sym (eqb-true i n h)))
  defined_value i false h = ap (λ o. unwrap_or o (Int (pos 0))) (sym (past row (plain_value c row) i (λ e. eqb-false i n h (e ∙ wide))))

  holds_follow : (es : List PTerm) → Free es → tests_hold (follow n c es) row ≡ tests_hold es longer
  holds_follow [] f = refl
  holds_follow (e ∷ es) f =
      holds_append (conjuncts (with_columns (defined n c) e)) (follow n c es) row
      ∙ (λ i. (holds_conjuncts (with_columns (defined n c) e) row ∙ passes_changed (λ j. true) (defined n c) row longer (λ j r. defined_value j (nat_eq j n) refl) e (reads_any e f.0)) i && holds_follow es f.1 i)

  around : (t : Bool) (es only more fs : List PTerm) → tests_hold es longer ≡ (tests_hold only row && tests_hold more longer) → tests_hold fs row ≡ tests_hold es longer → tests_hold es longer ≡ (tests_hold (cond t fs only) row && tests_hold (cond t [] more) longer)
  around true es only more fs g h = sym h ∙ sym (and-true (tests_hold fs row))
  around false es only more fs g h = g

  -- tests on it are tests on the row without it and tests that stay
  pub holds_around : (es : List PTerm) → Free es → tests_hold es longer ≡ (tests_hold (below_column n c es) row && tests_hold (above_column n c es) longer)
  holds_around es f =
      let only = reading_only (other_than n) es in
      let more = reading_more (other_than n) es in
      around (can_follow n c es) es only more (follow n c es)
      (holds_parted (reads_only (other_than n)) es longer
      ∙ ap (λ x. x && tests_hold more longer) (sym (holds_same (other_than n) row longer other_values only (passing (reads_only (other_than n)) es))))
      (holds_follow es f)

-- a pair
module _ (n : ℕ) (a b : List Value) (wide : length a ≡ n) where
  left_values : (i : ℕ) → before n i ≡ true → value_at (a ++ b) i ≡ value_at a i
  left_values i h =
      let under : i < n = ltb-true i n h in ap (λ o. unwrap_or o (Int (pos 0))) (front a b i (omega (arith, under, wide)))

  right_values : (i : ℕ) → from n i ≡ true → plain_value (counted_from n i) b ≡ value_at (a ++ b) i
  right_values i h =
      let over : n ≤ i = leb-true n i h in
      ap (λ o. unwrap_or o (Int (pos 0))) (ap (λ m. slice_get b (i - m)) (sym wide) ∙ sym (back a b i (omega (arith, over, wide))))

  -- tests on one side
  pub holds_sides : (es : List PTerm) → (tests_hold (on_left n es) (a ++ b) && tests_hold (reading_only (from n) (reading_more (before n) es)) (a ++ b)) ≡ (tests_hold (on_left n es) a && tests_hold (on_right n es) b)
  holds_sides es =
      λ i. holds_same (before n) (a ++ b) a left_values (on_left n es) (passing (reads_only (before n)) es) i
      && sym (holds_changed (from n) (counted_from n) b (a ++ b) right_values (reading_only (from n) (reading_more (before n) es)) (passing (reads_only (from n)) (reading_more (before n) es))) i

-- tests on pairs are tests on either side and on both
holds_three : (n : ℕ) (es : List PTerm) (row : List Value) → tests_hold es row ≡ (tests_hold (on_left n es) row && (tests_hold (reading_only (from n) (reading_more (before n) es)) row && tests_hold (on_both n es) row))
holds_three n es row =
    holds_parted (reads_only (before n)) es row ∙ ap (λ x. tests_hold (on_left n es) row && x) (holds_parted (reads_only (from n)) (reading_more (before n) es) row)

regroup : (l r b i : Bool) → ((l && r) && (b && i)) ≡ ((l && (r && b)) && i)
regroup true r b i = sym (and_assoc r b i)
regroup false r b i = refl

exchange : (e m i c : Bool) → (m && i) ≡ c → ((e && m) && i) ≡ (c && e)
exchange true m i c h = h ∙ sym (and-true c)
exchange false m i true h = refl
exchange false m i false h = refl

-- some tests, and the conjuncts of a condition
holds_more : (es : List PTerm) (c : PTerm) (row : List Value) → (tests_hold (es ++ movable c) row && tests_hold (staying c) row) ≡ (passes c row && tests_hold es row)
holds_more es c row =
    ap (λ x. x && tests_hold (staying c) row) (holds_append es (movable c) row)
    ∙ exchange (tests_hold es row) (tests_hold (movable c) row) (tests_hold (staying c) row) (passes c row) (holds_split c row)

-- the tests of a join
holds_join :
    (n : ℕ) (es : List PTerm) (c : PTerm) (row : List Value) →
    ((tests_hold (on_left n (es ++ movable c)) row && tests_hold (reading_only (from n) (reading_more (before n) (es ++ movable c))) row) && passes (condition (on_both n (es ++ movable c) ++ staying c)) row)
    ≡ (passes c row && tests_hold es row)
holds_join n es c row =
    let tests = es ++ movable c in
    let l = tests_hold (on_left n tests) row in
    let r = tests_hold (reading_only (from n) (reading_more (before n) tests)) row in
    ap (λ x. (l && r) && x) (passes_condition (on_both n tests ++ staying c) row ∙ holds_append (on_both n tests) (staying c) row)
    ∙ regroup l r (tests_hold (on_both n tests) row) (tests_hold (staying c) row)
    ∙ ap (λ x. x && tests_hold (staying c) row) (sym (holds_three n tests row))
    ∙ holds_more es c row

-- columns of some places
kept_value : (places : List ℕ) (row : List Value) (i : ℕ) → plain_value (renamed places i) row ≡ value_at (kept places row) i
kept_value [] row i = refl
kept_value (j ∷ places) row zero = refl
kept_value (j ∷ places) row (suc i) = kept_value places row i

module _ (kinds : List (List Kind)) (ts : List Rows) (tables : AllZip HaveKinds kinds ts) where
  pub strengthened_rows : (es : List PTerm) (p : PlanTree) (ks : List Kind) → plan_kinds kinds p ≡ Some ks → Tests ks es → plain_rows (strengthened_by es p) ts ≡ filter (tests_hold es) (plain_rows p ts)
  strengthened_rows es (plan.Scan t w) ks h g = filtered_by_rows es (plan.Scan t w) ts
  strengthened_rows es (plan.Rows w rows) ks h g = filtered_by_rows es (plan.Rows w rows) ts
  strengthened_rows es (plan.Extend c p) ks h g =
      let a = extend_parts kinds ks c p h in
      let n = plan_width p in
      let at : n ≡ length a.0 = sym (width_is kinds p a.0 a.2) in
      let own = subst (λ js. Tests js es) (sym a.4) g in
      let below = strengthened_rows (below_column n c es) p a.0 a.2 (tests_below a.0 a.1 n at c a.3 es own) in
      let free = tests_free ks es g in
      filtered_by_rows (above_column n c es) (plan.Extend c (strengthened_by (below_column n c es) p)) ts
      ∙ (λ i. filter (tests_hold (above_column n c es)) (map (extended c) (below i)))
      ∙ filter_changed (λ row. length row ≡ n) (extended c) (tests_hold (below_column n c es)) (tests_hold (above_column n c es)) (tests_hold es)
      (λ row wide. holds_around n c row wide es free) (plain_rows p ts) (rows_wide kinds ts tables p a.0 a.2)
  strengthened_rows es (plan.Keep places p) ks h g =
      let a = keep_parts kinds ks places p h in
      let below = strengthened_rows (map (with_columns (renamed places)) es) p a.0 a.1 (tests_kept a.0 ks places a.2 es g) in
      let any = reads_all es (tests_free ks es g) in
      (λ i. map (kept places) (below i))
      ∙ filter_map_same (λ row. Unit {0}) (kept places) (tests_hold (map (with_columns (renamed places)) es)) (tests_hold es)
      (λ row u. sym (holds_changed (λ i. true) (renamed places) row (kept places row) (λ i r. kept_value places row i) es any))
      (plain_rows p ts) (every (λ row. Unit {0}) (λ row. tt) (plain_rows p ts))
  strengthened_rows es (plan.Filter c p) ks h g =
      let a = filter_parts kinds ks c p h in
      let rows = plain_rows p ts in
      let tests = es ++ movable c in
      let below = strengthened_rows tests p ks a.0 (all_append (IsTest ks) es (movable c) g (tests_movable ks c a.1)) in
      filtered_by_rows (staying c) (strengthened_by tests p) ts
      ∙ (λ i. filter (tests_hold (staying c)) (below i))
      ∙ filter_both (tests_hold (staying c)) (tests_hold tests) rows
      ∙ (λ i. filter (λ row. holds_more es c row i) rows)
      ∙ sym (filter_both (tests_hold es) (passes c) rows)
  strengthened_rows es (plan.Join c p q) ks h g =
      let a = join_parts kinds ks c p q h in
      let n = plan_width p in
      let at : n ≡ length a.0 = sym (width_is kinds p a.0 a.2) in
      let tests = es ++ movable c in
      let own = all_append (IsTest (a.0 ++ a.1)) es (movable c) (subst (λ js. Tests js es) (sym a.5) g) (tests_movable (a.0 ++ a.1) c a.4) in
      let left = strengthened_rows (on_left n tests) p a.0 a.2 (tests_left a.0 a.1 n at tests own) in
      let right = strengthened_rows (on_right n tests) q a.1 a.3 (tests_right a.0 a.1 n at tests own) in
      let sides = λ (row : List Value). tests_hold (on_left n tests) row && tests_hold (reading_only (from n) (reading_more (before n) tests)) row in
      let all = pairs (plain_rows p ts) (plain_rows q ts) in
      let test = condition (on_both n tests ++ staying c) in
      (λ i. filter (passes test) (pairs (left i) (right i)))
      ∙ ap (filter (passes test)) (pairs_filtered n (tests_hold (on_left n tests)) (tests_hold (on_right n tests)) sides (λ x y wide. holds_sides n x y wide tests) (plain_rows p ts) (plain_rows q ts) (rows_wide kinds ts tables p a.0 a.2))
      ∙ filter_both (passes test) sides all
      ∙ (λ i. filter (λ row. holds_join n es c row i) all)
      ∙ sym (filter_both (tests_hold es) (passes c) all)
  strengthened_rows es (plan.Union p q) ks h g =
      let a = union_parts kinds ks p q h in
      (λ i. strengthened_rows es p ks a.0 g i ++ strengthened_rows es q ks a.1 g i) ∙ sym (filter-append (tests_hold es) (plain_rows p ts) (plain_rows q ts))
  strengthened_rows es (plan.Group keys aggs p) ks h g =
      let a = group_parts kinds ks keys aggs p h in
      let same = strengthened_rows [] p a.0 a.3 tt ∙ filter_all (plain_rows p ts) in
      filtered_by_rows es (plan.Group keys aggs (strengthened_by [] p)) ts ∙ (λ i. filter (tests_hold es) (plain_group keys aggs (same i)))
