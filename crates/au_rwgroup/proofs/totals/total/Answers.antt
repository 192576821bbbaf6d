-- The plan is the definition's.
use Rattle.au_plain.specs.Plans.{plan_tree}
use Rattle.au_rwgroup.proofs.Added.{total_adds}
use Rattle.au_rwgroup.proofs.Laws.{total_gives}
use Rattle.au_rwgroup.proofs.totals.total.Goals as goal

pub returns-clause-gives : goal.returns-clause-gives
returns-clause-gives c = total_gives c.args.layout.now.columns c.args.aggs.now (plan_tree c.args.of) (plan_tree c.in_ok-plan.plan) c.in_ok-plan.ensures

pub returns-clause-adds : goal.returns-clause-adds
returns-clause-adds c = total_adds c.args.layout.now.columns c.args.aggs.now (plan_tree c.args.of) (plan_tree c.in_ok-plan.plan) c.in_ok-plan.ensures
