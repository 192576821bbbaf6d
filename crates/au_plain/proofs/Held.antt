-- The numbers of a plan's rows lie in the range where those of the tables and of the plan do.
use Rattle.std.specs.Prelude.{◌≡◌, ℕ, zero, suc, ◌+◌, ◌-◌, ◌^◌, ◌≤◌, Bool, true, false, List, [], ◌∷◌, ◌++◌, map, filter, flat_map, sum_by, unwrap_or, slice_get, length, ◌&&◌, ◌==◌, option_and_then, IsTrue, Some, ℤ, pos, negsuc, nat_abs, ◌+ℤ◌, if◌then◌else◌}
use Rattle.std.specs.List.{AllByRecursion, list_all}
use Rattle.std.proofs.Common.{arith, refl, ◌∙◌}
use Rattle.std.proofs.lemmas.Int.{ints}
use Rattle.std.proofs.lemmas.Bool.{and_parts, and_from, le-leb, leb-true}
use Rattle.std.proofs.lemmas.List.Folds.{list_all-append}
use Rattle.std.proofs.lemmas.List.Sums.{sum_by-cons}
use Rattle.au_value.specs.declared.kinds.Kind.{Kind}
use Rattle.au_value.specs.declared.kinds.Kind.TheVariants as kind
use Rattle.au_value.specs.declared.value.Value.{Value}
use Rattle.au_value.specs.Order.{kind_of}
use Rattle.au_value.specs.Lists.{distinct}
use Rattle.au_expr.specs.Figures.{fit, Fit}
use Rattle.au_expr.specs.Numbers.{number_if_any}
use Rattle.au_expr.specs.Ordinary.{is_true, number}
use Rattle.au_expr.specs.Kinds.{is_kind}
use Rattle.au_expr.proofs.Fits.{fit_parts, fit_lesser, fit_greater}
use Rattle.au_algebra.specs.Lists.{same_row, int_sum, least, greatest, value_at}
use Rattle.au_algebra.specs.Ordinary.{Rows}
use Rattle.au_algebra.specs.Typing.{same_kinds, kinds_if, all_kinds}
use Rattle.au_algebra.proofs.Each.{all_filter, all_append, all_distinct}
use Rattle.au_algebra.proofs.Items.{and_then_is, chosen_is}
use Rattle.au_plain.specs.declared.plan.PAgg.{PAgg}
use Rattle.au_plain.specs.declared.plan.PAgg.TheVariants.{Sum, Min, Max}
use Rattle.au_plain.specs.PTerms.{PTerm, plain_value}
use Rattle.au_plain.specs.PTerms as term
use Rattle.au_plain.specs.Plans.{PlanTree}
use Rattle.au_plain.specs.Plans as plan
use Rattle.au_plain.specs.Meaning.{plain_rows, plain_aggregate, plain_group, extended, kept, passes}
use Rattle.au_plain.specs.PlanKinds.{plan_kinds, plain_kind, kept_kinds, plain_agg_kind, list_kinds, row_fits, FitRows, FitTables}
use Rattle.au_plain.specs.PlanNumbers.{plan_numbers, term_numbers, parts_numbers, magnitudes, group_numbers}

-- the number of a value, if it is one, lies in the range
abbrev pub ValueFits : Value → Type 0
ValueFits v = Fit (number_if_any v)

abbrev pub RowFits : List Value → Type 0
RowFits row = IsTrue (row_fits row)

-- a value of a row, or 0
pub column_fits : (row : List Value) (i : ℕ) → RowFits row → ValueFits (value_at row i)
column_fits [] i h = refl
column_fits (v ∷ row) zero h = (and_parts (fit (number_if_any v)) (row_fits row) h).0
column_fits (v ∷ row) (suc i) h = column_fits row i (and_parts (fit (number_if_any v)) (row_fits row) h).1

-- the row of some of its values
kept_fits : (places : List ℕ) (row : List Value) → RowFits row → RowFits (kept places row)
kept_fits [] row h = refl
kept_fits (i ∷ places) row h = and_from _ _ (column_fits row i h) (kept_fits places row h)

-- two rows as one
pub joined_fits : (xs ys : List Value) → RowFits xs → RowFits ys → RowFits (xs ++ ys)
joined_fits xs ys p q = list_all-append (λ v. fit (number_if_any v)) xs ys ∙ and_from _ _ p q

-- the branch that is chosen
chosen_fits :
    (t : Bool) (xs ys : List ℤ) (v w : Value) → (Fit xs → ValueFits v) → (Fit ys → ValueFits w) →
    Fit (if t then xs else ys) → ValueFits (if t then v else w)
chosen_fits true xs ys v w f g h = f h
chosen_fits false xs ys v w f g h = g h

-- the value of an expression whose numbers fit
pub value_fits : (e : PTerm) (row : List Value) → Fit (term_numbers e row) → ValueFits (plain_value e row)
value_fits (term.Column i) row h = h
value_fits (term.Literal v) row h = h
value_fits (term.Add a b) row h = (fit_parts (number_if_any (plain_value (term.Add a b) row)) (term_numbers a row ++ term_numbers b row) h).0
value_fits (term.Subtract a b) row h = (fit_parts (number_if_any (plain_value (term.Subtract a b) row)) (term_numbers a row ++ term_numbers b row) h).0
value_fits (term.Multiply a b) row h = (fit_parts (number_if_any (plain_value (term.Multiply a b) row)) (term_numbers a row ++ term_numbers b row) h).0
value_fits (term.Negate a) row h = (fit_parts (number_if_any (plain_value (term.Negate a) row)) (term_numbers a row) h).0
value_fits (term.Compare how a b) row h = refl
value_fits (term.And a b) row h = refl
value_fits (term.Or a b) row h = refl
value_fits (term.Not a) row h = refl
value_fits (term.Case c a b) row h =
    chosen_fits (is_true (plain_value c row)) (term_numbers a row) (term_numbers b row) (plain_value a row) (plain_value b row) (value_fits a row) (value_fits b row)
    (fit_parts (term_numbers c row) (if is_true (plain_value c row) then term_numbers a row else term_numbers b row) h).1
value_fits (term.Least es) row h = (fit_parts (number_if_any (plain_value (term.Least es) row)) (parts_numbers es row) h).0
value_fits (term.Greatest es) row h = (fit_parts (number_if_any (plain_value (term.Greatest es) row)) (parts_numbers es row) h).0

-- rows with a column more
extended_fit : (e : PTerm) (rows : Rows) → FitRows rows → Fit (flat_map (term_numbers e) rows) → FitRows (map (extended e) rows)
extended_fit e [] h f = tt
extended_fit e (row ∷ rows) h f =
    let p = fit_parts (term_numbers e row) (flat_map (term_numbers e) rows) f in
    let value : RowFits (plain_value e row ∷ []) = and_from _ _ (value_fits e row p.0) refl in
    (joined_fits row (plain_value e row ∷ []) h.0 value, extended_fit e rows h.1 p.1)

-- rows of some of their columns
all_kept : (places : List ℕ) (rows : Rows) → FitRows rows → FitRows (map (kept places) rows)
all_kept places [] h = tt
all_kept places (row ∷ rows) h = (kept_fits places row h.0, all_kept places rows h.1)

-- one row with each of some rows
beside_fit : (row : List Value) (rows : Rows) → RowFits row → FitRows rows → FitRows (map (λ b. row ++ b) rows)
beside_fit row [] h k = tt
beside_fit row (b ∷ rows) h k = (joined_fits row b h k.0, beside_fit row rows h k.1)

-- each pair
pairs_fit : (xs ys : Rows) → FitRows xs → FitRows ys → FitRows (flat_map (λ a. map (λ b. a ++ b) ys) xs)
pairs_fit [] ys h k = tt
pairs_fit (x ∷ xs) ys h k = all_append RowFits (map (λ b. x ++ b) ys) (flat_map (λ a. map (λ b. a ++ b) ys) xs) (beside_fit x ys h.0 k) (pairs_fit xs ys h.1 k)

-- the least and the greatest of values that fit
least_fits : (vs : List Value) → AllByRecursion ValueFits vs → ValueFits (least vs)
least_fits [] h = refl
least_fits (v ∷ []) h = h.0
least_fits (v ∷ w ∷ ws) h = fit_lesser v (least (w ∷ ws)) h.0 (least_fits (w ∷ ws) h.1)

greatest_fits : (vs : List Value) → AllByRecursion ValueFits vs → ValueFits (greatest vs)
greatest_fits [] h = refl
greatest_fits (v ∷ []) h = h.0
greatest_fits (v ∷ w ∷ ws) h = fit_greater v (greatest (w ∷ ws)) h.0 (greatest_fits (w ∷ ws) h.1)

columns_fit : (c : ℕ) (rows : Rows) → FitRows rows → AllByRecursion ValueFits (map (λ row. value_at row c) rows)
columns_fit c [] h = tt
columns_fit c (row ∷ rows) h = (column_fits row c h.0, columns_fit c rows h.1)

-- the magnitude of a sum is at most that of both
magnitude : (a b : ℤ) → nat_abs (a +ℤ b) ≤ nat_abs a + nat_abs b
magnitude a b = omega (arith, ints)

sum_magnitude : {A : Type 0} (f : A → ℤ) (xs : List A) → nat_abs (int_sum (map f xs)) ≤ sum_by (λ x. nat_abs (f x)) xs
sum_magnitude f [] = omega arith
sum_magnitude f (x ∷ xs) =
    let rest = sum_magnitude f xs in
    let first = magnitude (f x) (int_sum (map f xs)) in
    let whole = sum_by-cons (λ y. nat_abs (f y)) x xs in
    omega (arith, rest, first, whole)

number_fits : (z : ℤ) (n : ℕ) → nat_abs z ≤ n → Fit (pos n ∷ []) → Fit (z ∷ [])
number_fits (pos m) n h f =
    let wide : n ≤ 2 ^ 127 - 1 = leb-true n (2 ^ 127 - 1) (and_parts _ _ f).0 in
    and_from _ _ (le-leb m (2 ^ 127 - 1) (let e : m ≤ 2 ^ 127 - 1 = omega (arith, h, wide) in e)) refl
number_fits (negsuc m) n h f =
    let wide : n ≤ 2 ^ 127 - 1 = leb-true n (2 ^ 127 - 1) (and_parts _ _ f).0 in
    and_from _ _ (and_from _ _ (le-leb m (2 ^ 127 - 1) (let e : m ≤ 2 ^ 127 - 1 = omega (arith, h, wide) in e)) refl) refl

-- an aggregate
aggregate_fits : (rows : Rows) (agg : PAgg) → FitRows rows → Fit (magnitudes rows agg) → ValueFits (plain_aggregate rows agg)
aggregate_fits rows (Sum c) h f =
    number_fits (int_sum (map (λ row. number (value_at row c)) rows)) (sum_by (λ row. nat_abs (number (value_at row c))) rows)
    (sum_magnitude (λ row. number (value_at row c)) rows) f
aggregate_fits rows (Min c) h f = least_fits (map (λ row. value_at row c) rows) (columns_fit c rows h)
aggregate_fits rows (Max c) h f = greatest_fits (map (λ row. value_at row c) rows) (columns_fit c rows h)

aggregates_fit : (rows : Rows) (aggs : List PAgg) → FitRows rows → Fit (flat_map (magnitudes rows) aggs) → RowFits (map (plain_aggregate rows) aggs)
aggregates_fit rows [] h f = refl
aggregates_fit rows (agg ∷ aggs) h f =
    let p = fit_parts (magnitudes rows agg) (flat_map (magnitudes rows) aggs) f in
    and_from _ _ (aggregate_fits rows agg h p.0) (aggregates_fit rows aggs h p.1)

-- the rows of some groups
module _ (keys : List ℕ) (aggs : List PAgg) (rows : Rows) where
  abbrev members : List Value → Rows
  members key = filter (λ row. same_row key (kept keys row)) rows

  groups_fit :
      (found : Rows) → FitRows rows → FitRows found → Fit (flat_map (λ key. flat_map (magnitudes (members key)) aggs) found) →
      FitRows (map (λ key. key ++ map (plain_aggregate (members key)) aggs) found)
  groups_fit [] h k f = tt
  groups_fit (key ∷ found) h k f =
      let p = fit_parts (flat_map (magnitudes (members key)) aggs) (flat_map (λ key. flat_map (magnitudes (members key)) aggs) found) f in
      let own = all_filter RowFits (λ row. same_row key (kept keys row)) rows h in
      (joined_fits key (map (plain_aggregate (members key)) aggs) k.0 (aggregates_fit (members key) aggs own p.0), groups_fit found h k.1 p.1)

-- the rows of a grouping
group_fits : (keys : List ℕ) (aggs : List PAgg) (rows : Rows) → FitRows rows → Fit (group_numbers keys aggs rows) → FitRows (plain_group keys aggs rows)
group_fits keys aggs rows h f =
    groups_fit keys aggs rows (distinct same_row (map (kept keys) rows)) h (all_distinct RowFits same_row (map (kept keys) rows) (all_kept keys rows h)) f

-- the rows of a table
scanned_fit : (ts : List Rows) (t : ℕ) → FitTables ts → FitRows (unwrap_or (slice_get ts t) [])
scanned_fit [] t h = tt
scanned_fit (rows ∷ ts) zero h = h.0
scanned_fit (rows ∷ ts) (suc t) h = scanned_fit ts t h.1

-- rows that are written out
written_fit : (w : ℕ) (ks : List Kind) (rows : Rows) → IsTrue (list_all (λ r. (length r == w) && (same_kinds (map kind_of r) ks && row_fits r)) rows) → FitRows rows
written_fit w ks [] h = tt
written_fit w ks (row ∷ rows) h =
    let p = and_parts _ _ h in
    let q = and_parts _ _ (and_parts _ _ p.0).1 in
    (q.1, written_fit w ks rows p.1)

listed_fit : (w : ℕ) (ks : List Kind) (rows : Rows) → list_kinds w rows ≡ Some ks → FitRows rows
listed_fit w ks [] e = tt
listed_fit w ks (row ∷ rows) e = written_fit w (map kind_of row) (row ∷ rows) (chosen_is (list_all (λ r. (length r == w) && (same_kinds (map kind_of r) (map kind_of row) && row_fits r)) (row ∷ rows)) (Some (map kind_of row)) ks e).0

-- Where the tables' numbers lie in the 128-bit range, and no number of the plan leaves it, the numbers of its rows lie in it.
pub rows_fit :
    (kinds : List (List Kind)) (ks : List Kind) (p : PlanTree) (ts : List Rows) → plan_kinds kinds p ≡ Some ks → FitTables ts →
    Fit (plan_numbers p ts) → FitRows (plain_rows p ts)
rows_fit kinds ks (plan.Scan t w) ts e h f = scanned_fit ts t h
rows_fit kinds ks (plan.Rows w rows) ts e h f = listed_fit w ks rows e
rows_fit kinds ks (plan.Extend c p) ts e h f =
    let own = and_then_is (λ js. option_and_then (λ k. Some (js ++ k ∷ [])) (plain_kind js c)) (plan_kinds kinds p) ks e in
    let n = fit_parts (plan_numbers p ts) (flat_map (term_numbers c) (plain_rows p ts)) f in
    extended_fit c (plain_rows p ts) (rows_fit kinds own.0 p ts own.1 h n.0) n.1
rows_fit kinds ks (plan.Keep places p) ts e h f =
    let own = and_then_is (λ js. kept_kinds places js) (plan_kinds kinds p) ks e in
    all_kept places (plain_rows p ts) (rows_fit kinds own.0 p ts own.1 h f)
rows_fit kinds ks (plan.Filter c p) ts e h f =
    let own = and_then_is (λ js. kinds_if (is_kind kind.Flag (plain_kind js c)) js) (plan_kinds kinds p) ks e in
    let n = fit_parts (plan_numbers p ts) (flat_map (term_numbers c) (plain_rows p ts)) f in
    all_filter RowFits (passes c) (plain_rows p ts) (rows_fit kinds own.0 p ts own.1 h n.0)
rows_fit kinds ks (plan.Join c p q) ts e h f =
    let left = and_then_is (λ js. option_and_then (λ hs. kinds_if (is_kind kind.Flag (plain_kind (js ++ hs) c)) (js ++ hs)) (plan_kinds kinds q)) (plan_kinds kinds p) ks e in
    let right = and_then_is (λ hs. kinds_if (is_kind kind.Flag (plain_kind (left.0 ++ hs) c)) (left.0 ++ hs)) (plan_kinds kinds q) ks left.2 in
    let pairs = flat_map (λ a. map (λ b. a ++ b) (plain_rows q ts)) (plain_rows p ts) in
    let n = fit_parts (plan_numbers p ts ++ plan_numbers q ts) (flat_map (term_numbers c) pairs) f in
    let m = fit_parts (plan_numbers p ts) (plan_numbers q ts) n.0 in
    all_filter RowFits (passes c) pairs
    (pairs_fit (plain_rows p ts) (plain_rows q ts) (rows_fit kinds left.0 p ts left.1 h m.0) (rows_fit kinds right.0 q ts right.1 h m.1))
rows_fit kinds ks (plan.Union p q) ts e h f =
    let left = and_then_is (λ js. option_and_then (λ hs. kinds_if (same_kinds js hs) js) (plan_kinds kinds q)) (plan_kinds kinds p) ks e in
    let right = and_then_is (λ hs. kinds_if (same_kinds left.0 hs) left.0) (plan_kinds kinds q) ks left.2 in
    let m = fit_parts (plan_numbers p ts) (plan_numbers q ts) f in
    all_append RowFits (plain_rows p ts) (plain_rows q ts) (rows_fit kinds left.0 p ts left.1 h m.0) (rows_fit kinds right.0 q ts right.1 h m.1)
rows_fit kinds ks (plan.Group keys aggs p) ts e h f =
    let own = and_then_is (λ js. option_and_then (λ hs. option_and_then (λ more. Some (hs ++ more)) (all_kinds (map (plain_agg_kind js) aggs))) (kept_kinds keys js)) (plan_kinds kinds p) ks e in
    let n = fit_parts (plan_numbers p ts) (group_numbers keys aggs (plain_rows p ts)) f in
    group_fits keys aggs (plain_rows p ts) (rows_fit kinds own.0 p ts own.1 h n.0) n.1
