-- The boxes are the hulls of the keys.
use Rattle.std.proofs.Common.{◌∙◌}
use Rattle.au_rwgroup.specs.GroupPlan.{group_over}
use Rattle.au_rwgroup.proofs.grouping.group_plan.Goals as goal

pub returns-clause-plan : goal.returns-clause-plan
returns-clause-plan c =
    let parts = c.in_ok-boxes.ensures in
    c.in_ok-plan.ensures.plan ∙ (λ i. group_over c.args.how c.args.layout.now.columns c.args.keys c.args.aggs.now (parts.hulls i) (parts.rows i))
