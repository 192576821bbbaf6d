-- The plans of the first grouping and of Distinct are typed.
use Rattle.std.specs.Prelude.{◌≡◌, ℕ, zero, suc, ◌+◌, ◌*◌, List, [], ◌∷◌, ◌++◌, length, map, Some, None, option_and_then, if◌then◌else◌}
use Rattle.std.proofs.Common.{arith, refl, ◌∙◌, ap, subst, append_assoc}
use Rattle.std.proofs.lemmas.List.{length-append}
use Rattle.au_value.specs.declared.kinds.Kind.{Kind}
use Rattle.au_value.specs.declared.kinds.Kind.TheVariants.{Int, Flag}
use Rattle.au_expr.specs.Kinds.{is_kind}
use Rattle.au_algebra.specs.Typing.{all_kinds}
use Rattle.au_plain.specs.declared.expr.Comparison2.TheVariants.{Equal, Less}
use Rattle.au_plain.specs.PTerms.{PTerm, Column, Add, And}
use Rattle.au_plain.specs.declared.plan.PAgg.{PAgg}
use Rattle.au_plain.specs.Plans.{PlanTree, Extend, Keep, extend_all}
use Rattle.au_plain.specs.PlanKinds.{plan_kinds, plain_kind, plain_agg_kind}
use Rattle.au_encode.specs.Encode.{encoded_kinds, triple_kinds}
use Rattle.au_rwexpr.specs.Flatten.{lo, sg, hi}
use Rattle.au_rwexpr.specs.Counts.{zero_term, one_term, positive}
use Rattle.au_rwexpr.specs.Cells.{cell_places, run}
use Rattle.au_combine.specs.Boxes.{boxes}
use Rattle.au_rwgroup.specs.Groups.{sure, all_sure, group_columns, first_aggs, first_grouping, distinct_plan}
use Rattle.au_rwexpr.proofs.Places.{At, at_more, at_past, EndsOfAll, all_ends_at, all_ends_more}
use Rattle.au_rwexpr.proofs.Columns.{adds, means_now}
use Rattle.au_rwexpr.proofs.OnKinds.{HasKind, column_kind, test_kind, and_kind, case_kind, add_kind}
use Rattle.au_rwexpr.proofs.Picks.{Picks, picks_more, picks_wider, pick_cells, coded_cells, coded_triple, coded_long, all_ends_long}
use Rattle.au_combine.proofs.BoxKinds.{boxes_kinds}
use Rattle.au_combine.proofs.BoxPlaces.{run_picks}
use Rattle.au_rwexpr.proofs.Coded.{own}
use Rattle.au_rwexpr.proofs.Gives.{HasKinds, same_map, kinds-keep, kinds-extend, kinds-extend_all}

-- the test of certain ranges is a flag
pub sure_kind : (row : List Kind) (i k : ℕ) (ks : List Kind) → length ks ≡ k → EndsOfAll own own own row i ks → HasKind row (all_sure i k) Flag
sure_kind row i zero ks e z = λ more. refl
sure_kind row i (suc k) [] e z = let never : ⊥ = omega (arith, e) in absurd never
sure_kind row i (suc zero) (x ∷ xs) e z = test_kind row (lo i) (hi i) Equal x (column_kind row i x z.0.lo) (column_kind row (i + 2) x z.0.hi)
sure_kind row i (suc (suc k)) (x ∷ xs) e z =
    and_kind row (sure i) (all_sure (i + 3) (suc k)) (test_kind row (lo i) (hi i) Equal x (column_kind row i x z.0.lo) (column_kind row (i + 2) x z.0.hi))
    (sure_kind row (i + 3) (suc k) xs (omega (arith, e)) z.1)

-- the test of a count is a flag
pub positive_kind : (row : List Kind) (e : PTerm) → HasKind row e Int → HasKind row (positive e) Flag
positive_kind row e p = test_kind row zero_term e Less Int (λ more. refl) p

-- the kinds of the added columns
abbrev pub four : List Kind
four = Int ∷ Int ∷ Int ∷ Int ∷ []

-- the kinds after the last steps: the most is the sum of two columns
first_picked : (tk : List (List Kind)) (js : List Kind) (k : ℕ) (kept : List PAgg) (es : List Kind) (p : PlanTree) → length js ≡ k → length es ≡ length kept → plan_kinds tk p ≡ Some (triple_kinds js ++ (Int ∷ Int ∷ Int ∷ Int ∷ es)) → plan_kinds tk (Keep (cell_places 0 k ++ (3 * k ∷ (3 * k + 1) ∷ (3 * k + 4 + length kept) ∷ run (3 * k + 4) (length kept))) (Extend (Add (Column (3 * k + 2)) (Column (3 * k + 3))) p)) ≡ Some (triple_kinds js ++ (Int ∷ Int ∷ Int ∷ es))
first_picked tk js k kept es p e el boxed =
    let w = 3 * k in
    let all = Int ∷ Int ∷ Int ∷ Int ∷ es in
    let keys = triple_kinds js in
    let row = keys ++ all in
    let keys_long : length keys ≡ w = all_ends_long own own own js ∙ ap (λ q. 3 * q) e in
    let u : At row (w + 2) Int = at_past keys all 2 (w + 2) Int (omega (arith, keys_long)) refl in
    let v : At row (w + 3) Int = at_past keys all 3 (w + 3) Int (omega (arith, keys_long)) refl in
    let sum = Add (Column (w + 2)) (Column (w + 3)) in
    let extended = kinds-extend tk sum p row Int boxed
    (means_now plain_kind row sum Int (add_kind row (Column (w + 2)) (Column (w + 3)) (column_kind row (w + 2) Int u) (column_kind row (w + 3) Int v))) in
    let whole = row ++ Int ∷ [] in
    let row_long : length row ≡ w + 4 + length kept = omega (arith, length-append keys all, keys_long, el) in
    let last_places = run (w + 4) (length kept) in
    let places = w ∷ (w + 1) ∷ (w + 4 + length kept) ∷ last_places in
    let pre = keys ++ four in
    let pre_long : length pre ≡ w + 4 = omega (arith, length-append keys four, keys_long) in
    let turned : pre ++ map own es ≡ row = ap (λ q. pre ++ q) (same_map es) ∙ append_assoc keys four es in
    let last : Picks row last_places es =
    subst (λ q. Picks row (run (w + 4) q) es) el
    (subst (λ vs. Picks row (run (w + 4) (length es)) vs) (same_map es) (subst (λ r. Picks r (run (w + 4) (length es)) (map own es)) turned (run_picks own pre es (w + 4) pre_long))) in
    kinds-keep tk (cell_places 0 k ++ places) (Extend sum p) whole (keys ++ (Int ∷ Int ∷ Int ∷ es)) extended
    (picks_more whole (cell_places 0 k) places keys (Int ∷ Int ∷ Int ∷ es)
    (pick_cells own own own whole 0 k js e (all_ends_more own own own row (Int ∷ []) 0 js (all_ends_at own own own [] all 0 js refl))) (
      at_more row (Int ∷ []) w Int (at_past keys all 0 w Int (omega (arith, keys_long)) refl),
      (
        at_more row (Int ∷ []) (w + 1) Int (at_past keys all 1 (w + 1) Int (omega (arith, keys_long)) refl),
        (at_past row (Int ∷ []) 0 (w + 4 + length kept) Int (omega (arith, row_long)) refl, picks_wider row (Int ∷ []) last_places es last),
      ),
    ))

-- The rows with what they add to the triple of their group have four numbers more.
pub wide_kinds : (tk : List (List Kind)) (ks js : List Kind) (k : ℕ) (p : PlanTree) → length js ≡ k → EndsOfAll own own own (encoded_kinds ks) 0 js → HasKinds tk p ks → plan_kinds tk (extend_all (group_columns (length ks) k) p) ≡ Some (encoded_kinds ks ++ four)
wide_kinds tk ks js k p e keys h =
    let c = length ks in
    let t = 3 * c in
    let row = encoded_kinds ks in
    let counts = coded_triple own own own own own own c ks Int refl in
    let sure = sure_kind row 0 k js e keys in
    let l = column_kind row t Int counts.lo in
    let g = column_kind row (t + 1) Int counts.sg in
    let m = column_kind row (t + 2) Int counts.hi in
    let z : HasKind row zero_term Int = (λ more. refl) in
    let o : HasKind row one_term Int = (λ more. refl) in
    let grown = adds plain_kind row (group_columns c k) four (
      case_kind row one_term zero_term Int (And (all_sure 0 k) (positive (lo t))) (and_kind row (all_sure 0 k) (positive (lo t)) sure (positive_kind row (lo t) l)) o z,
      (
        case_kind row one_term zero_term Int (positive (sg t)) (positive_kind row (sg t) g) o z,
        (case_kind row zero_term (hi t) Int (all_sure 0 k) sure z m, (case_kind row one_term zero_term Int (all_sure 0 k) sure o z, tt)),
      ),
    ) in
    kinds-extend_all tk (group_columns c k) p row (row ++ four) h grown

-- The first grouping has the kinds of its keys and of a triple, and then those of the further aggregates.
pub first_kinds : (tk : List (List Kind)) (ks js : List Kind) (k : ℕ) (kept : List PAgg) (es : List Kind) (p : PlanTree) → length js ≡ k → length es ≡ length kept → EndsOfAll own own own (encoded_kinds ks) 0 js → all_kinds (map (plain_agg_kind (encoded_kinds ks ++ four)) kept) ≡ Some es → HasKinds tk p ks → plan_kinds tk (first_grouping (length ks) k kept p) ≡ Some (triple_kinds js ++ (Int ∷ Int ∷ Int ∷ es))
first_kinds tk ks js k kept es p e el keys more h =
    let c = length ks in
    let n = 3 * c + 3 in
    let row = encoded_kinds ks in
    let wide = row ++ four in
    let long = coded_long own own own own own own c ks Int refl in
    let inner = extend_all (group_columns c k) p in
    let first = wide_kinds tk ks js k p e keys h in
    let at0 : At wide n Int = at_past row four 0 n Int (omega (arith, long)) refl in
    let at1 : At wide (n + 1) Int = at_past row four 1 (n + 1) Int (omega (arith, long)) refl in
    let at2 : At wide (n + 2) Int = at_past row four 2 (n + 2) Int (omega (arith, long)) refl in
    let at3 : At wide (n + 3) Int = at_past row four 3 (n + 3) Int (omega (arith, long)) refl in
    let aggs = first_aggs n kept in
    let all = Int ∷ Int ∷ Int ∷ Int ∷ es in
    let aggs_kinds : all_kinds (map (plain_agg_kind wide) aggs) ≡ Some all =
    (λ j. option_and_then (λ a. option_and_then (λ rest. Some (a ∷ rest)) (option_and_then (λ b. option_and_then (λ rest. Some (b ∷ rest)) (option_and_then (λ d. option_and_then (λ rest. Some (d ∷ rest)) (option_and_then (λ f. option_and_then (λ rest. Some (f ∷ rest)) (more j)) (at3 j))) (if is_kind Int (at2 j) then Some Int else None))) (at1 j))) (at0 j)) in
    let boxed = boxes_kinds wide tk inner k js aggs all e (ap (λ q. suc (suc (suc (suc q)))) el) (all_ends_more own own own row four 0 js keys) aggs_kinds first in
    first_picked tk js k kept es (boxes k aggs inner) e el boxed

-- Distinct's plan has the encoded kinds of its input.
pub distinct_kinds : (tk : List (List Kind)) (ks : List Kind) (p : PlanTree) → HasKinds tk p ks → HasKinds tk (distinct_plan (length ks) p) ks
distinct_kinds tk ks p h =
    first_kinds tk ks ks (length ks) [] [] p refl refl (coded_cells own own own own own own (length ks) ks Int refl) refl h
