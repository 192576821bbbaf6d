-- A strengthened plan with each width read off the plan itself.
use Rattle.std.specs.Prelude.{◌≡◌, ℕ, ◌+◌, ◌-◌, List, [], ◌++◌, map}
use Rattle.std.proofs.Common.{arith, ap, refl, ◌∙◌}
use Rattle.au_plain.specs.PTerms.{PTerm}
use Rattle.au_plain.specs.Plans.{PlanTree, Scan, Rows, Extend, Keep, Filter, Join, Union, Group}
use Rattle.au_plain.specs.Widths.{plan_width}
use Rattle.au_passes.specs.Conditions.{condition}
use Rattle.au_passes.specs.Pushing.{filtered_by, below_column, above_column, on_left, on_right, on_both, strengthened}
use Rattle.au_passes.specs.Tests.{with_columns, renamed, movable, staying}

abbrev pub strengthened_by : List PTerm → PlanTree → PlanTree
strengthened_by es (Scan t w) = filtered_by es (Scan t w)
strengthened_by es (Rows w rows) = filtered_by es (Rows w rows)
strengthened_by es (Extend c p) = filtered_by (above_column (plan_width p) c es) (Extend c (strengthened_by (below_column (plan_width p) c es) p))
strengthened_by es (Keep places p) = Keep places (strengthened_by (map (with_columns (renamed places)) es) p)
strengthened_by es (Filter c p) = filtered_by (staying c) (strengthened_by (es ++ movable c) p)
strengthened_by es (Join c p q) =
    let tests = es ++ movable c in
    Join (condition (on_both (plan_width p) tests ++ staying c)) (strengthened_by (on_left (plan_width p) tests) p) (strengthened_by (on_right (plan_width p) tests) q)
strengthened_by es (Union p q) = Union (strengthened_by es p) (strengthened_by es q)
strengthened_by es (Group keys aggs p) = filtered_by es (Group keys aggs (strengthened_by [] p))

without_last : (w n : ℕ) → w ≡ n + 1 → w - 1 ≡ n
without_last w n h = omega (arith, h)

without_right : (w n m : ℕ) → w ≡ n + m → w - m ≡ n
without_right w n m h = omega (arith, h)

pub strengthened_is : (w : ℕ) (es : List PTerm) (p : PlanTree) → w ≡ plan_width p → strengthened w es p ≡ strengthened_by es p
strengthened_is w es (Scan t n) h = refl
strengthened_is w es (Rows n rows) h = refl
strengthened_is w es (Extend c p) h =
    let n = plan_width p in
    ap (λ m. filtered_by (above_column m c es) (Extend c (strengthened m (below_column m c es) p))) (without_last w n h)
    ∙ ap (λ q. filtered_by (above_column n c es) (Extend c q)) (strengthened_is n (below_column n c es) p refl)
strengthened_is w es (Keep places p) h = ap (Keep places) (strengthened_is (plan_width p) (map (with_columns (renamed places)) es) p refl)
strengthened_is w es (Filter c p) h = ap (filtered_by (staying c)) (strengthened_is w (es ++ movable c) p h)
strengthened_is w es (Join c p q) h =
    let tests = es ++ movable c in
    let n = plan_width p in
    ap
    (λ m. Join (condition (on_both m tests ++ staying c)) (strengthened m (on_left m tests) p) (strengthened (plan_width q) (on_right m tests) q))
    (without_right w n (plan_width q) h)
    ∙ (λ i. Join (condition (on_both n tests ++ staying c)) (strengthened_is n (on_left n tests) p refl i) (strengthened_is (plan_width q) (on_right n tests) q refl i))
strengthened_is w es (Union p q) h = λ i. Union (strengthened_is w es p h i) (strengthened_is (plan_width q) es q refl i)
strengthened_is w es (Group keys aggs p) h = ap (λ q. filtered_by es (Group keys aggs q)) (strengthened_is (plan_width p) [] p refl)
