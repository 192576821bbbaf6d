-- The plan is the definition's.
use Rattle.au_plain.specs.Plans.{plan_tree}
use Rattle.au_rwgroup.proofs.Added.{group_adds}
use Rattle.au_rwgroup.proofs.GroupLaws.{group_gives_all}
use Rattle.au_rwgroup.proofs.grouping.group.Goals as goal

pub returns-clause-gives : goal.returns-clause-gives
returns-clause-gives c =
    group_gives_all c.args.how c.args.layout.now.columns c.args.keys c.args.aggs.now (plan_tree c.args.of) (plan_tree c.in_ok-plan.plan) c.in_ok-plan.ensures.plan

pub returns-clause-adds : goal.returns-clause-adds
returns-clause-adds c = group_adds c.args.how c.args.layout.now.columns c.args.keys c.args.aggs.now (plan_tree c.args.of) (plan_tree c.in_ok-plan.plan) c.in_ok-plan.ensures.plan
