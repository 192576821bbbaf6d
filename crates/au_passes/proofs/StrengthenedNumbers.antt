-- A strengthened plan leaves the range only where the plan does.
use Rattle.std.specs.Prelude.{◌≡◌, Bool, not, ◌&&◌, IsTrue, Some, List, [], ◌∷◌, ◌++◌, filter, flat_map, length, map, true}
use Rattle.std.specs.List.{AllByRecursion, AllZip, list_all}
use Rattle.std.proofs.Common.{refl, sym, ◌∙◌, subst}
use Rattle.std.proofs.lemmas.Bool.{and_parts, and_from}
use Rattle.std.proofs.lemmas.List.Folds.{list_all-append}
use Rattle.au_value.specs.declared.kinds.Kind.{Kind}
use Rattle.au_value.specs.declared.value.Value.{Value}
use Rattle.au_expr.specs.Figures.{fit, Fit}
use Rattle.au_expr.proofs.Fits.{fit_both, fit_parts}
use Rattle.au_algebra.specs.Ordinary.{Rows}
use Rattle.au_algebra.proofs.Each.{all_append, all_filter, all_from}
use Rattle.au_algebra.proofs.Filters.{filter_all}
use Rattle.au_plain.specs.PTerms.{PTerm, Column, Literal, Add, Subtract, Multiply, Negate, Compare, And, Or, Not, Case, Least, Greatest}
use Rattle.au_plain.specs.Meaning.{plain_rows}
use Rattle.au_plain.specs.PlanKinds.{FitRows, FitTables, HaveKinds, plan_kinds}
use Rattle.au_plain.specs.PlanNumbers.{group_numbers, plan_numbers, term_numbers}
use Rattle.au_plain.specs.Plans.{PlanTree}
use Rattle.au_plain.specs.Plans as plan
use Rattle.au_plain.proofs.Held.{RowFits, column_fits, joined_fits, rows_fit}
use Rattle.au_passes.specs.Conditions.{condition, conjuncts}
use Rattle.au_passes.specs.Pushing.{filtered_by, reading_only, reading_more, before, from, below_column, above_column, on_left, on_right, on_both}
use Rattle.au_passes.proofs.Strengthening.{strengthened_by}
use Rattle.au_passes.specs.Tests.{without_arithmetic, with_columns, renamed, movable, staying, tests_hold}
use Rattle.au_plain.specs.Widths.{plan_width}
use Rattle.au_passes.proofs.Conjunctions.{of_conjuncts, of_condition, fitting_both, all_left}
use Rattle.au_passes.proofs.FilteredRows.{pairs, pairs_filtered}
use Rattle.au_passes.proofs.PlanParts.{extend_parts, keep_parts, filter_parts, join_parts, union_parts, group_parts}
use Rattle.au_passes.proofs.StrengthenedKinds.{strengthened_kinds, extend_same, group_same}
use Rattle.au_passes.proofs.StrengthenedRows.{strengthened_rows, holds_sides}
use Rattle.au_passes.proofs.Testing.{IsTest, Tests, Free, tests_free, tests_movable, tests_below, tests_above, tests_left, tests_right, tests_both, tests_kept}
use Rattle.au_plain.proofs.Widths.{width_is, rows_wide}

-- an expression without arithmetic on a row whose numbers fit
free_fit : (e : PTerm) (row : List Value) → without_arithmetic e ≡ true → RowFits row → Fit (term_numbers e row)
free_fit (Column i) row f h = column_fits row i h
free_fit (Literal v) row f h = f
free_fit (Compare how a b) row f h =
    let p = and_parts (without_arithmetic a) (without_arithmetic b) f in
    fit_both (term_numbers a row) (term_numbers b row) (free_fit a row p.0 h) (free_fit b row p.1 h)
free_fit (And a b) row f h =
    let p = and_parts (without_arithmetic a) (without_arithmetic b) f in
    fit_both (term_numbers a row) (term_numbers b row) (free_fit a row p.0 h) (free_fit b row p.1 h)
free_fit (Or a b) row f h =
    let p = and_parts (without_arithmetic a) (without_arithmetic b) f in
    fit_both (term_numbers a row) (term_numbers b row) (free_fit a row p.0 h) (free_fit b row p.1 h)
free_fit (Not a) row f h = free_fit a row f h
free_fit (Add a b) row f h = cc
free_fit (Subtract a b) row f h = cc
free_fit (Multiply a b) row f h = cc
free_fit (Negate a) row f h = cc
free_fit (Case c a b) row f h = cc
free_fit (Least es) row f h = cc
free_fit (Greatest es) row f h = cc

-- each of some tests on a row
abbrev AllFit : List PTerm → List Value → Type 0
AllFit es row = IsTrue (list_all (λ e. fit (term_numbers e row)) es)

free_fits : (es : List PTerm) (row : List Value) → Free es → RowFits row → AllFit es row
free_fits [] row f h = refl
free_fits (e ∷ es) row f h = and_from _ _ (free_fit e row f.0 h) (free_fits es row f.1 h)

-- the conjuncts of a condition that stay
staying_fit : (e : PTerm) (row : List Value) → Fit (term_numbers e row) → AllFit (staying e) row
staying_fit e row h =
    let test = λ (c : PTerm). fit (term_numbers c row) in
    all_left test (λ c. not (without_arithmetic c)) (conjuncts e) (sym (of_conjuncts test (fitting_both row) e) ∙ h)

-- the condition of some tests
condition_fits : (es : List PTerm) (row : List Value) → AllFit es row → Fit (term_numbers (condition es) row)
condition_fits es row h = of_condition (λ e. fit (term_numbers e row)) (fitting_both row) es ∙ h

-- a test on each of some rows
each_fits : (e : PTerm) (rows : Rows) → AllByRecursion (λ row. Fit (term_numbers e row)) rows → Fit (flat_map (term_numbers e) rows)
each_fits e [] h = refl
each_fits e (row ∷ rows) h = fit_both (term_numbers e row) (flat_map (term_numbers e) rows) h.0 (each_fits e rows h.1)

fits_each : (e : PTerm) (rows : Rows) → Fit (flat_map (term_numbers e) rows) → AllByRecursion (λ row. Fit (term_numbers e row)) rows
fits_each e [] h = tt
fits_each e (row ∷ rows) h = let p = fit_parts (term_numbers e row) (flat_map (term_numbers e) rows) h in (p.0, fits_each e rows p.1)

some_fit : (e : PTerm) (test : List Value → Bool) (rows : Rows) → Fit (flat_map (term_numbers e) rows) → Fit (flat_map (term_numbers e) (filter test rows))
some_fit e test rows h = each_fits e (filter test rows) (all_filter (λ row. Fit (term_numbers e row)) test rows (fits_each e rows h))

-- the rows that pass each of some tests
filtered_by_fits : (es : List PTerm) (p : PlanTree) (ts : List Rows) → AllByRecursion (AllFit es) (plain_rows p ts) → Fit (plan_numbers p ts) → Fit (plan_numbers (filtered_by es p) ts)
filtered_by_fits [] p ts h g = g
filtered_by_fits (e ∷ es) p ts h g =
    let test = condition (e ∷ es) in
    let rows = plain_rows p ts in
    fit_both (plan_numbers p ts) (flat_map (term_numbers test) rows) g
    (each_fits test rows (all_from (AllFit (e ∷ es)) (λ row. Fit (term_numbers test row)) rows (λ row f. condition_fits (e ∷ es) row f) h))

-- tests without arithmetic
tests_fit : (es : List PTerm) (rows : Rows) → Free es → FitRows rows → AllByRecursion (AllFit es) rows
tests_fit es [] f h = tt
tests_fit es (row ∷ rows) f h = (free_fits es row f h.0, tests_fit es rows f h.1)

-- the rest of a condition
rest_fit : (c : PTerm) (rows : Rows) → AllByRecursion (λ row. Fit (term_numbers c row)) rows → AllByRecursion (AllFit (staying c)) rows
rest_fit c [] h = tt
rest_fit c (row ∷ rows) h = (staying_fit c row h.0, rest_fit c rows h.1)

-- both in one condition
both_fit : (es : List PTerm) (c : PTerm) (rows : Rows) → Free es → FitRows rows → AllByRecursion (λ row. Fit (term_numbers c row)) rows → AllByRecursion (λ row. Fit (term_numbers (condition (es ++ staying c)) row)) rows
both_fit es c [] f h g = tt
both_fit es c (row ∷ rows) f h g =
    let own : AllFit (es ++ staying c) row = list_all-append (λ e. fit (term_numbers e row)) es (staying c) ∙ and_from _ _ (free_fits es row f h.0) (staying_fit c row g.0) in
    (condition_fits (es ++ staying c) row own, both_fit es c rows f h.1 g.1)

-- pairs of rows that fit
beside_fit : (a : List Value) (rows : Rows) → RowFits a → FitRows rows → FitRows (map (λ b. a ++ b) rows)
beside_fit a [] h k = tt
beside_fit a (b ∷ rows) h k = (joined_fits a b h k.0, beside_fit a rows h k.1)

pairs_fit : (xs ys : Rows) → FitRows xs → FitRows ys → FitRows (pairs xs ys)
pairs_fit [] ys h k = tt
pairs_fit (a ∷ xs) ys h k = all_append RowFits (map (λ b. a ++ b) ys) (pairs xs ys) (beside_fit a ys h.0 k) (pairs_fit xs ys h.1 k)

module _ (kinds : List (List Kind)) (ts : List Rows) (tables : AllZip HaveKinds kinds ts) (held : FitTables ts) where
  pub strengthened_fits : (es : List PTerm) (p : PlanTree) (ks : List Kind) → plan_kinds kinds p ≡ Some ks → Tests ks es → Fit (plan_numbers p ts) → Fit (plan_numbers (strengthened_by es p) ts)
  strengthened_fits es (plan.Scan t w) ks h g f =
      let p = plan.Scan t w in filtered_by_fits es p ts (tests_fit es (plain_rows p ts) (tests_free ks es g) (rows_fit kinds ks p ts h held f)) f
  strengthened_fits es (plan.Rows w rows) ks h g f =
      let p = plan.Rows w rows in filtered_by_fits es p ts (tests_fit es (plain_rows p ts) (tests_free ks es g) (rows_fit kinds ks p ts h held f)) f
  strengthened_fits es (plan.Extend c p) ks h g f =
      let a = extend_parts kinds ks c p h in
      let n = plan_width p in
      let at : n ≡ length a.0 = sym (width_is kinds p a.0 a.2) in
      let own = subst (λ js. Tests js es) (sym a.4) g in
      let tests = tests_below a.0 a.1 n at c a.3 es own in
      let q = strengthened_by (below_column n c es) p in
      let parts = fit_parts (plan_numbers p ts) (flat_map (term_numbers c) (plain_rows p ts)) f in
      let below = strengthened_fits (below_column n c es) p a.0 a.2 tests parts.0 in
      let rows = strengthened_rows kinds ts tables (below_column n c es) p a.0 a.2 tests in
      let column = subst (λ (rs : Rows). Fit (flat_map (term_numbers c) rs)) (sym rows) (some_fit c (tests_hold (below_column n c es)) (plain_rows p ts) parts.1) in
      let whole = fit_both (plan_numbers q ts) (flat_map (term_numbers c) (plain_rows q ts)) below column in
      let typed = extend_same kinds ks a.0 c p q a.2 (strengthened_kinds kinds (below_column n c es) p a.0 a.2 tests) h in
      filtered_by_fits (above_column n c es) (plan.Extend c q) ts
      (tests_fit (above_column n c es) (plain_rows (plan.Extend c q) ts)
      (tests_free (a.0 ++ a.1 ∷ []) (above_column n c es) (tests_above a.0 a.1 n at c a.3 es own))
      (rows_fit kinds ks (plan.Extend c q) ts typed held whole))
      whole
  strengthened_fits es (plan.Keep places p) ks h g f =
      let a = keep_parts kinds ks places p h in
      strengthened_fits (map (with_columns (renamed places)) es) p a.0 a.1 (tests_kept a.0 ks places a.2 es g) f
  strengthened_fits es (plan.Filter c p) ks h g f =
      let a = filter_parts kinds ks c p h in
      let more = es ++ movable c in
      let tests = all_append (IsTest ks) es (movable c) g (tests_movable ks c a.1) in
      let parts = fit_parts (plan_numbers p ts) (flat_map (term_numbers c) (plain_rows p ts)) f in
      let rows = strengthened_rows kinds ts tables more p ks a.0 tests in
      let left = all_filter (λ row. Fit (term_numbers c row)) (tests_hold more) (plain_rows p ts) (fits_each c (plain_rows p ts) parts.1) in
      filtered_by_fits (staying c) (strengthened_by more p) ts
      (subst (λ (rs : Rows). AllByRecursion (AllFit (staying c)) rs) (sym rows) (rest_fit c (filter (tests_hold more) (plain_rows p ts)) left))
      (strengthened_fits more p ks a.0 tests parts.0)
  strengthened_fits es (plan.Join c p q) ks h g f =
      let a = join_parts kinds ks c p q h in
      let n = plan_width p in
      let at : n ≡ length a.0 = sym (width_is kinds p a.0 a.2) in
      let more = es ++ movable c in
      let own = all_append (IsTest (a.0 ++ a.1)) es (movable c) (subst (λ js. Tests js es) (sym a.5) g) (tests_movable (a.0 ++ a.1) c a.4) in
      let lefts = tests_left a.0 a.1 n at more own in
      let rights = tests_right a.0 a.1 n at more own in
      let boths = tests_free (a.0 ++ a.1) (on_both n more) (tests_both a.0 a.1 n at more own) in
      let xs = plain_rows p ts in
      let ys = plain_rows q ts in
      let l = strengthened_by (on_left n more) p in
      let r = strengthened_by (on_right n more) q in
      let test = condition (on_both n more ++ staying c) in
      let parts = fit_parts (plan_numbers p ts ++ plan_numbers q ts) (flat_map (term_numbers c) (pairs xs ys)) f in
      let sides = fit_parts (plan_numbers p ts) (plan_numbers q ts) parts.0 in
      let passing = λ (row : List Value). tests_hold (on_left n more) row && tests_hold (reading_only (from n) (reading_more (before n) more)) row in
      let rows : pairs (plain_rows l ts) (plain_rows r ts) ≡ filter passing (pairs xs ys) =
      (λ i. pairs (strengthened_rows kinds ts tables (on_left n more) p a.0 a.2 lefts i) (strengthened_rows kinds ts tables (on_right n more) q a.1 a.3 rights i))
      ∙ pairs_filtered n (tests_hold (on_left n more)) (tests_hold (on_right n more)) passing (λ x y wide. holds_sides n x y wide more) xs ys (rows_wide kinds ts tables p a.0 a.2) in
      let fine = pairs_fit xs ys (rows_fit kinds a.0 p ts a.2 held sides.0) (rows_fit kinds a.1 q ts a.3 held sides.1) in
      let all = each_fits test (pairs xs ys) (both_fit (on_both n more) c (pairs xs ys) boths fine (fits_each c (pairs xs ys) parts.1)) in
      fit_both (plan_numbers l ts ++ plan_numbers r ts) (flat_map (term_numbers test) (pairs (plain_rows l ts) (plain_rows r ts)))
      (fit_both (plan_numbers l ts) (plan_numbers r ts) (strengthened_fits (on_left n more) p a.0 a.2 lefts sides.0) (strengthened_fits (on_right n more) q a.1 a.3 rights sides.1))
      (subst (λ (rs : Rows). Fit (flat_map (term_numbers test) rs)) (sym rows) (some_fit test passing (pairs xs ys) all))
  strengthened_fits es (plan.Union p q) ks h g f =
      let a = union_parts kinds ks p q h in
      let parts = fit_parts (plan_numbers p ts) (plan_numbers q ts) f in
      fit_both (plan_numbers (strengthened_by es p) ts) (plan_numbers (strengthened_by es q) ts) (strengthened_fits es p ks a.0 g parts.0) (strengthened_fits es q ks a.1 g parts.1)
  strengthened_fits es (plan.Group keys aggs p) ks h g f =
      let a = group_parts kinds ks keys aggs p h in
      let q = strengthened_by [] p in
      let parts = fit_parts (plan_numbers p ts) (group_numbers keys aggs (plain_rows p ts)) f in
      let same : plain_rows q ts ≡ plain_rows p ts = strengthened_rows kinds ts tables [] p a.0 a.3 tt ∙ filter_all (plain_rows p ts) in
      let sums = subst (λ (rs : Rows). Fit (group_numbers keys aggs rs)) (sym same) parts.1 in
      let whole = fit_both (plan_numbers q ts) (group_numbers keys aggs (plain_rows q ts)) (strengthened_fits [] p a.0 a.3 tt parts.0) sums in
      let typed = group_same kinds ks a.0 keys aggs p q a.3 (strengthened_kinds kinds [] p a.0 a.3 tt) h in
      filtered_by_fits es (plan.Group keys aggs q) ts
      (tests_fit es (plain_rows (plan.Group keys aggs q) ts) (tests_free ks es g) (rows_fit kinds ks (plan.Group keys aggs q) ts typed held whole)) whole
