-- Both parts, one after the other.
use Rattle.std.proofs.lemmas.Result.{IfOk-at_ok}
use Rattle.au_plain.specs.Plans.{plan_tree}
use Rattle.au_rwpoints.proofs.GroupLaws.{group_gives}
use Rattle.au_rwpoints.proofs.grouping.group.Goals as goal

pub returns-clause-gives : goal.returns-clause-gives
returns-clause-gives c =
    let made = c.in_ok-points in
    group_gives c.args.layout.now.columns c.args.keys c.args.aggs.now (plan_tree c.args.of) (plan_tree made.points) (plan_tree made.others) (plan_tree c.in_ok-plan.plan)
    (IfOk-at_ok _ made.ensures.values.0 c.point_groups-points.ensures.gives) (IfOk-at_ok _ made.ensures.values.1 c.other_groups-others.ensures.gives) c.in_ok-plan.ensures.gives
