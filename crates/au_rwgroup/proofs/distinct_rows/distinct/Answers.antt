-- The plan is the definition's.
use Rattle.au_plain.specs.Plans.{plan_tree}
use Rattle.au_rwgroup.proofs.Added.{distinct_adds}
use Rattle.au_rwgroup.proofs.Laws.{distinct_gives}
use Rattle.au_rwgroup.proofs.distinct_rows.distinct.Goals as goal

pub returns-clause-gives : goal.returns-clause-gives
returns-clause-gives c = distinct_gives c.args.layout.now.columns (plan_tree c.args.of) (plan_tree c.in_ok-plan.plan) c.in_ok-plan.ensures

pub returns-clause-adds : goal.returns-clause-adds
returns-clause-adds c = distinct_adds c.args.layout.now.columns (plan_tree c.args.of) (plan_tree c.in_ok-plan.plan) c.in_ok-plan.ensures
