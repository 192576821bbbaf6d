-- Each operator over strengthened parts is strengthened.
use Rattle.std.proofs.Common.{◌≡◌, ◌∙◌, sym, ap, subst, map}
use Rattle.std.proofs.lemmas.Result.{IfOk-at_ok}
use Rattle.std.specs.Prelude.{IfOk}
use Rattle.au_plain.specs.PTerms.{pterm}
use Rattle.au_plain.specs.Plans.{PlanTree, plan_tree}
use Rattle.au_plain.specs.Plans as tree
use Rattle.au_passes.specs.Pushing.{filtered_by}
use Rattle.au_passes.specs.Tests.{with_columns, renamed}
use Rattle.au_passes.proofs.PushSteps.{extend_step, keep_step, join_step}
use Rattle.au_passes.proofs.pushdown.+strengthen.Goals as goal

pub returns-in_ok-extend-in-Extend : goal.returns-in_ok-extend-in-Extend
returns-in_ok-extend-in-Extend t c =
    let column = pterm c.in-Extend.column in
    let of = plan_tree c.into_inner-of.result in
    let around = c.in_ok-around-in-Extend in
    let above = map pterm around.around.above.items in
    let whole : plan_tree c.args.plan ≡ tree.Extend column of =
    ap plan_tree c.in-Extend.is ∙ ap (λ p. tree.Extend column (plan_tree p)) (sym c.into_inner-of.ensures) in
    let made = extend_step column (map pterm c.args.tests.items) (map pterm around.around.below.items) above c.args.width
    c.saturating_sub-place.result of (plan_tree c.in_ok-below-in-Extend.below) (plan_tree c.args.plan) whole c.saturating_sub-place.ensures
    around.ensures.below around.ensures.above c.in_ok-below-in-Extend.ensures in
    subst (λ (p : PlanTree). IfOk c.filter_by-in-Extend.result (λ q. plan_tree q ≡ p)) (ap (filtered_by above) c.in_ok-extend-in-Extend.ensures ∙ made)
    c.filter_by-in-Extend.ensures

pub returns-in_ok-below-in-Keep : goal.returns-in_ok-below-in-Keep
returns-in_ok-below-in-Keep t c =
    let places = c.in-Keep.places.items in
    let of = plan_tree c.into_inner-of-in-Keep.result in
    let whole : plan_tree c.args.plan ≡ tree.Keep places of =
    ap plan_tree c.in-Keep.is ∙ ap (λ p. tree.Keep places (plan_tree p)) (sym c.into_inner-of-in-Keep.ensures) in
    let made = keep_step places (map pterm c.args.tests.items) (map pterm c.in_ok-renamed-in-Keep.renamed.items) c.args.width
    c.in_ok-columns-in-Keep.columns of (plan_tree c.in_ok-below-in-Keep.below) (plan_tree c.args.plan) whole c.in_ok-columns-in-Keep.ensures
    (c.in_ok-renamed-in-Keep.ensures ∙ (λ i. map (with_columns (renamed (c.as_slice.ensures.value i))) (map pterm (c.deref.ensures.value i))))
    c.in_ok-below-in-Keep.ensures in
    subst (λ (p : PlanTree). IfOk c.keep.result (λ q. plan_tree q ≡ p)) made c.keep.ensures

pub returns-in_ok-made-in-Join : goal.returns-in_ok-made-in-Join
returns-in_ok-made-in-Join t c =
    let condition = pterm c.in-Join.condition in
    let left = plan_tree c.into_inner-left.result in
    let right = plan_tree c.into_inner-right.result in
    let sides = c.in_ok-sides-in-Join in
    let made = c.in_ok-made-in-Join in
    let ways = IfOk-at_ok _ made.ensures.values.1 c.both.ensures.values in
    let whole : plan_tree c.args.plan ≡ tree.Join condition left right =
    ap plan_tree c.in-Join.is ∙ (λ i. tree.Join condition (plan_tree (sym c.into_inner-left.ensures i)) (plan_tree (sym c.into_inner-right.ensures i))) in
    let made = join_step condition (pterm made.made.0) (map pterm c.args.tests.items) (map pterm sides.sides.left.items)
    (map pterm sides.sides.right.items) (map pterm sides.sides.both.items) c.args.width c.saturating_sub-first.result c.in_ok-more-in-Join.more left right
    (plan_tree made.made.1.0) (plan_tree made.made.1.1) (plan_tree c.args.plan) whole c.in_ok-more-in-Join.ensures c.saturating_sub-first.ensures
    sides.ensures.left sides.ensures.right sides.ensures.both (IfOk-at_ok _ made.ensures.values.0 c.condition_of.ensures)
    (IfOk-at_ok _ ways.0 c.strengthen-a.ensures) (IfOk-at_ok _ ways.1 c.strengthen-b.ensures) in
    subst (λ (p : PlanTree). IfOk c.join.result (λ q. plan_tree q ≡ p)) made c.join.ensures
