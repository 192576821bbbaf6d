-- The boxes are the points.
use Rattle.std.proofs.Common.{◌≡◌, ◌∙◌}
use Rattle.au_plain.specs.Plans.{plan_tree}
use Rattle.au_rwgroup.specs.GroupPlan.{group_over}
use Rattle.au_rwpoints.specs.PointPlan.{points_plan}
use Rattle.au_rwpoints.proofs.PointGroups.{outputs_give, outputs_scans}
use Rattle.au_rwpoints.proofs.grouping.point_groups.Goals as goal

pub returns-clause-gives : goal.returns-clause-gives
returns-clause-gives c =
    let n = c.args.layout.now.columns in
    let k = c.args.keys in
    let aggs = c.args.aggs.now in
    let of = plan_tree c.args.of.now in
    let parts = c.in_ok-boxes.ensures in
    let plan = plan_tree c.in_ok-plan.plan in
    let is : plan ≡ points_plan c.args.how n k aggs of = c.in_ok-plan.ensures.plan ∙ (λ i. group_over c.args.how n k aggs (parts.boxes i) (parts.rows i)) in
    outputs_give c.args.how n k aggs of plan is

pub returns-clause-scans : goal.returns-clause-scans
returns-clause-scans c =
    let n = c.args.layout.now.columns in
    let k = c.args.keys in
    let aggs = c.args.aggs.now in
    let of = plan_tree c.args.of.now in
    let parts = c.in_ok-boxes.ensures in
    let plan = plan_tree c.in_ok-plan.plan in
    let is : plan ≡ points_plan c.args.how n k aggs of = c.in_ok-plan.ensures.plan ∙ (λ i. group_over c.args.how n k aggs (parts.boxes i) (parts.rows i)) in
    outputs_scans c.args.how n k aggs of plan is
