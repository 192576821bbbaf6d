-- The plan of Total is typed.
use Rattle.std.specs.Prelude.{◌≡◌, ℕ, zero, suc, ◌+◌, ◌*◌, ◌==◌, ◌&&◌, true, List, [], ◌∷◌, ◌++◌, length, map, replicate, pos, Some, None, slice_get, option_and_then, if◌then◌else◌}
use Rattle.std.specs.List.{list_all}
use Rattle.std.proofs.Common.{arith, refl, sym, ◌∙◌, ap, subst, append_assoc}
use Rattle.std.proofs.lemmas.Bool.{true≢false}
use Rattle.std.proofs.lemmas.List.{length-append}
use Rattle.au_value.specs.declared.kinds.Kind.{Kind}
use Rattle.au_value.specs.declared.kinds.Kind.TheVariants.{Int}
use Rattle.au_value.specs.declared.value.Value.{Value}
use Rattle.au_value.specs.declared.value.Value.TheVariants as value
use Rattle.au_value.specs.Order.{kind_of}
use Rattle.au_expr.specs.Kinds.{is_kind}
use Rattle.au_expr.proofs.Along.{is_kind_is}
use Rattle.au_algebra.specs.declared.query.Agg.{Agg}
use Rattle.au_algebra.specs.declared.query.Agg.TheVariants as agg
use Rattle.au_algebra.specs.Typing.{all_kinds, agg_kind, is_sum, total_kinds, kinds_if, same_kinds}
use Rattle.au_algebra.proofs.Items.{and_then_is, some_is}
use Rattle.au_plain.specs.declared.expr.Comparison2.TheVariants.{Less}
use Rattle.au_plain.specs.declared.plan.PAgg.TheVariants.{Sum}
use Rattle.au_plain.specs.PTerms.{PTerm, Compare, Multiply}
use Rattle.au_plain.specs.Plans.{PlanTree, Rows, Keep, Union, Group, extend_all}
use Rattle.au_plain.specs.PlanKinds.{plan_kinds, plain_kind, plain_agg_kind, kept_kinds, row_fits}
use Rattle.au_encode.specs.Encode.{encoded_kinds, triple_kinds}
use Rattle.au_rwexpr.specs.Flatten.{lo, sg, hi, three}
use Rattle.au_rwexpr.specs.Counts.{zero_term, one_term}
use Rattle.au_rwexpr.specs.Cells.{run}
use Rattle.au_rwgroup.specs.Totals.{signed, total_columns, total_sums, sums, total_plan}
use Rattle.au_rwexpr.proofs.Places.{At, at_past, ends_at}
use Rattle.au_rwexpr.proofs.Columns.{AllMean, adds}
use Rattle.au_rwexpr.proofs.OnKinds.{HasKind, column_kind, test_kind, case_kind, multiply_kind}
use Rattle.au_rwexpr.proofs.Picks.{Picks, coded_cells, coded_triple, coded_long}
use Rattle.au_rwexpr.proofs.Coded.{own}
use Rattle.au_combine.proofs.BoxPlaces.{run_picks}
use Rattle.au_rwexpr.proofs.Gives.{HasKinds, same_map, same_kinds_itself, kinds-keep, kinds-extend_all}
use Rattle.au_rwgroup.proofs.TotalTyped.{if_some}

pub signed_kind : (row : List Kind) (below above x : PTerm) → HasKind row below Int → HasKind row above Int → HasKind row x Int → HasKind row (signed below above x) Int
signed_kind row below above x b a h =
    case_kind row (Multiply below x) (Multiply above x) Int (Compare Less x zero_term) (test_kind row x zero_term Less Int h (λ more. refl)) (multiply_kind row below x b h) (multiply_kind row above x a h)

-- the kinds of sums
abbrev sums_of : List Agg → List Kind
sums_of aggs = map (λ a. Int) aggs

sums_are : (ks : List Kind) (aggs : List Agg) (js : List Kind) → list_all is_sum aggs ≡ true → all_kinds (map (agg_kind ks) aggs) ≡ Some js → sums_of aggs ≡ js
sums_are ks [] js s h = some_is [] js h
sums_are ks (agg.Sum c ∷ aggs) js s h =
    let p = and_then_is _ (agg_kind ks (agg.Sum c)) js h in
    let q = and_then_is _ (all_kinds (map (agg_kind ks) aggs)) js p.2 in
    let i = if_some (is_kind Int (slice_get ks c)) (Some Int) p.0 p.1 in
    (λ j. some_is Int p.0 i.1 j ∷ sums_are ks aggs q.0 s q.1 j) ∙ some_is (p.0 ∷ q.0) js q.2
sums_are ks (agg.Min c ∷ aggs) js s h = absurd (true≢false (sym s))
sums_are ks (agg.Max c ∷ aggs) js s h = absurd (true≢false (sym s))

zeros_fit : (w : ℕ) → row_fits (replicate w (value.Int (pos 0))) ≡ true
zeros_fit zero = refl
zeros_fit (suc w) = zeros_fit w

columns_long : (t : ℕ) (aggs : List Agg) → length (triple_kinds (sums_of aggs)) ≡ length (total_columns t aggs)
columns_long t [] = refl
columns_long t (a ∷ aggs) = omega (arith, columns_long t aggs)

zeros_kinds : (t : ℕ) (aggs : List Agg) → map kind_of (replicate (length (total_columns t aggs)) (value.Int (pos 0))) ≡ triple_kinds (sums_of aggs)
zeros_kinds t [] = refl
zeros_kinds t (a ∷ aggs) = λ i. Int ∷ Int ∷ Int ∷ zeros_kinds t aggs i

zeros_long : (w : ℕ) (v : Value) → (length (replicate w v) == w) ≡ true
zeros_long zero v = refl
zeros_long (suc w) v = grind (arith, zeros_long w v)

columns_kinds : (ks : List Kind) (aggs : List Agg) (js : List Kind) → list_all is_sum aggs ≡ true → all_kinds (map (agg_kind ks) aggs) ≡ Some js → AllMean plain_kind (encoded_kinds ks) (total_columns (3 * length ks) aggs) (triple_kinds (sums_of aggs))
columns_kinds ks [] js s h = tt
columns_kinds ks (agg.Sum c ∷ aggs) js s h =
    let p = and_then_is _ (agg_kind ks (agg.Sum c)) js h in
    let q = and_then_is _ (all_kinds (map (agg_kind ks) aggs)) js p.2 in
    let i = if_some (is_kind Int (slice_get ks c)) (Some Int) p.0 p.1 in
    let row = encoded_kinds ks in
    let t = 3 * length ks in
    let e = ends_at own own own row 0 c (3 * c) ks Int (coded_cells own own own own own own (length ks) ks Int refl) (is_kind_is Int (slice_get ks c) i.0) (omega arith) in
    let x = coded_triple own own own own own own (length ks) ks Int refl in
    let l = column_kind row t Int x.lo in
    let g = column_kind row (t + 1) Int x.sg in
    let m = column_kind row (t + 2) Int x.hi in (
      signed_kind row (hi t) (lo t) (lo (3 * c)) m l (column_kind row (3 * c) Int e.lo),
      (
        multiply_kind row (sg t) (sg (3 * c)) g (column_kind row (3 * c + 1) Int e.sg),
        (signed_kind row (lo t) (hi t) (hi (3 * c)) l m (column_kind row (3 * c + 2) Int e.hi), columns_kinds ks aggs q.0 s q.1),
      ),
    )
columns_kinds ks (agg.Min c ∷ aggs) js s h = absurd (true≢false (sym s))
columns_kinds ks (agg.Max c ∷ aggs) js s h = absurd (true≢false (sym s))

abbrev ints : List Kind
ints = Int ∷ Int ∷ Int ∷ []

sums_kinds : (pre : List Kind) (i : ℕ) (aggs : List Agg) → length pre ≡ i → all_kinds (map (plain_agg_kind (pre ++ triple_kinds (sums_of aggs))) (total_sums i aggs)) ≡ Some (triple_kinds (sums_of aggs))
sums_kinds pre i [] e = refl
sums_kinds pre i (a ∷ aggs) e =
    let later = triple_kinds (sums_of aggs) in
    let row = pre ++ (Int ∷ Int ∷ Int ∷ later) in
    let sum_kind : (n : ℕ) → At row n Int → plain_agg_kind row (Sum n) ≡ Some Int = (λ n at. λ j. if is_kind Int (at j) then Some Int else None) in
    let s0 = sum_kind i (at_past pre (Int ∷ Int ∷ Int ∷ later) 0 i Int (omega (arith, e)) refl) in
    let s1 = sum_kind (i + 1) (at_past pre (Int ∷ Int ∷ Int ∷ later) 1 (i + 1) Int (omega (arith, e)) refl) in
    let s2 = sum_kind (i + 2) (at_past pre (Int ∷ Int ∷ Int ∷ later) 2 (i + 2) Int (omega (arith, e)) refl) in
    let rest = subst (λ r. all_kinds (map (plain_agg_kind r) (total_sums (i + 3) aggs)) ≡ Some later) (append_assoc pre ints later) (sums_kinds (pre ++ ints) (i + 3) aggs (omega (arith, e, length-append pre ints))) in
    λ j. option_and_then (λ x. option_and_then (λ more. Some (x ∷ more)) (option_and_then (λ y. option_and_then (λ more. Some (y ∷ more)) (option_and_then (λ z. option_and_then (λ more. Some (z ∷ more)) (rest j)) (s2 j))) (s1 j))) (s0 j)

-- The plan of the sums has their encoded kinds.
pub sums_plan_kinds : (tk : List (List Kind)) (ks js : List Kind) (aggs : List Agg) → total_kinds aggs ks ≡ Some js → (p : PlanTree) → HasKinds tk p ks → HasKinds tk (sums (length ks) aggs p) js
sums_plan_kinds tk ks js aggs typed p h =
    let b = if_some (list_all is_sum aggs) (all_kinds (map (agg_kind ks) aggs)) js typed in
    let t = 3 * length ks in
    let n = 3 * length ks + 3 in
    let row = encoded_kinds ks in
    let long : length row ≡ n = coded_long own own own own own own (length ks) ks Int refl in
    let columns = total_columns t aggs in
    let w = length columns in
    let found = triple_kinds (sums_of aggs) in
    let wide = row ++ found in
    let grown = kinds-extend_all tk columns p row wide h (adds plain_kind row columns found (columns_kinds ks aggs js b.0 b.1)) in
    let picks : Picks wide (run n w) found =
    subst (λ m. Picks wide (run n m) found) (columns_long t aggs)
    (subst (λ vs. Picks (row ++ vs) (run n (length found)) vs) (same_map found) (run_picks own row found n long)) in
    let kept = kinds-keep tk (run n w) (extend_all columns p) wide found grown picks in
    let zero_row = replicate w (value.Int (pos 0)) in
    let zeros : plan_kinds tk (Rows w (zero_row ∷ [])) ≡ Some found =
    (λ i. kinds_if ((zeros_long w (value.Int (pos 0)) i && (same_kinds_itself (map kind_of zero_row) i && zeros_fit w i)) && true) (map kind_of zero_row)) ∙ ap Some (zeros_kinds t aggs) in
    let all = Union (Rows w (zero_row ∷ [])) (Keep (run n w) (extend_all columns p)) in
    let both : plan_kinds tk all ≡ Some found =
    (λ i. option_and_then (λ x. option_and_then (λ y. kinds_if (same_kinds x y) x) (kept i)) (zeros i)) ∙ ap (λ q. kinds_if q found) (same_kinds_itself found) in
    let grouped : plan_kinds tk (Group [] (total_sums 0 aggs) all) ≡ Some found =
    ap (option_and_then (λ xs. option_and_then (λ ms. option_and_then (λ more. Some (ms ++ more)) (all_kinds (map (plain_agg_kind xs) (total_sums 0 aggs)))) (kept_kinds [] xs))) both
    ∙ (λ i. option_and_then (λ more. Some more) (sums_kinds [] 0 aggs refl i)) in
    kinds-extend_all tk (three one_term one_term one_term) (Group [] (total_sums 0 aggs) all) found (found ++ ints) grouped
    (adds plain_kind found (three one_term one_term one_term) ints ((λ more. refl), ((λ more. refl), ((λ more. refl), tt))))
    ∙ ap (λ ms. Some (encoded_kinds ms)) (sums_are ks aggs js b.0 b.1)

-- Total's plan has them.
pub total_plan_kinds : (tk : List (List Kind)) (ks js : List Kind) (aggs : List Agg) → total_kinds aggs ks ≡ Some js → (p : PlanTree) → HasKinds tk p ks → HasKinds tk (total_plan (length ks) aggs p) js
total_plan_kinds tk ks js [] typed p h = ap (λ ms. Some (encoded_kinds ms)) (some_is [] js typed)
total_plan_kinds tk ks js (a ∷ aggs) typed p h = sums_plan_kinds tk ks js (a ∷ aggs) typed p h
