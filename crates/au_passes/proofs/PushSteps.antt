-- A strengthened plan, operator by operator, from its parts.
use Rattle.std.specs.Prelude.{◌≡◌, ℕ, ◌-◌, List, ◌++◌, map}
use Rattle.std.proofs.Common.{sym, ◌∙◌, ap}
use Rattle.au_plain.specs.PTerms.{PTerm}
use Rattle.au_plain.specs.Plans.{PlanTree, Extend, Keep, Join}
use Rattle.au_passes.specs.Conditions.{condition}
use Rattle.au_passes.specs.Pushing.{filtered_by, below_column, above_column, on_left, on_right, on_both, strengthened}
use Rattle.au_passes.specs.Tests.{with_columns, renamed, movable, staying}
use Rattle.au_plain.specs.Widths.{plan_width}

pub extend_step :
    (c : PTerm) (es bs hs : List PTerm) (w n : ℕ) (p below plan : PlanTree) → plan ≡ Extend c p → n ≡ w - 1 → bs ≡ below_column n c es →
    hs ≡ above_column n c es → below ≡ strengthened n bs p → filtered_by hs (Extend c below) ≡ strengthened w es plan
extend_step c es bs hs w n p below plan h v b a s =
    (λ i. filtered_by (a i) (Extend c (s i)))
    ∙ ap (λ gs. filtered_by (above_column n c es) (Extend c (strengthened n gs p))) b
    ∙ ap (λ m. filtered_by (above_column m c es) (Extend c (strengthened m (below_column m c es) p))) v
    ∙ sym (ap (strengthened w es) h)

pub keep_step :
    (places : List ℕ) (es fs : List PTerm) (w n : ℕ) (p below plan : PlanTree) → plan ≡ Keep places p → n ≡ plan_width p →
    fs ≡ map (with_columns (renamed places)) es → below ≡ strengthened n fs p → Keep places below ≡ strengthened w es plan
keep_step places es fs w n p below plan h v f s =
    ap (Keep places) (s ∙ (λ i. strengthened (v i) (f i) p)) ∙ sym (ap (strengthened w es) h)

pub join_step :
    (c d : PTerm) (es ls rs bs : List PTerm) (w n m : ℕ) (p q left right plan : PlanTree) → plan ≡ Join c p q → m ≡ plan_width q → n ≡ w - m →
    ls ≡ on_left n (es ++ movable c) → rs ≡ on_right n (es ++ movable c) → bs ≡ on_both n (es ++ movable c) ++ staying c → d ≡ condition bs →
    left ≡ strengthened n ls p → right ≡ strengthened m rs q → Join d left right ≡ strengthened w es plan
join_step c d es ls rs bs w n m p q left right plan h u v l r b t a e =
    let tests = es ++ movable c in
    (λ i. Join (t i) (a i) (e i))
    ∙ (λ i. Join (condition (b i)) (strengthened n (l i) p) (strengthened m (r i) q))
    ∙ ap (λ k. Join (condition (on_both k tests ++ staying c)) (strengthened k (on_left k tests) p) (strengthened m (on_right k tests) q)) (v ∙ ap (λ k. w - k) u)
    ∙ ap (λ k. Join (condition (on_both (w - plan_width q) tests ++ staying c)) (strengthened (w - plan_width q) (on_left (w - plan_width q) tests) p) (strengthened k (on_right (w - plan_width q) tests) q)) u
    ∙ sym (ap (strengthened w es) h)
