-- The plan is the definition's.
use Rattle.au_expr.specs.Terms.{term}
use Rattle.au_plain.specs.Plans.{plan_tree}
use Rattle.au_rwcore.proofs.Added.{select_adds}
use Rattle.au_rwcore.proofs.Laws.{select_gives}
use Rattle.au_rwcore.proofs.selection.select.Goals as goal

pub returns-clause-gives : goal.returns-clause-gives
returns-clause-gives c = select_gives c.args.layout.now.columns (term c.args.condition.now) (plan_tree c.args.of) (plan_tree c.in_ok-plan.plan) c.in_ok-plan.ensures

pub returns-clause-adds : goal.returns-clause-adds
returns-clause-adds c = select_adds c.args.layout.now.columns (term c.args.condition.now) (plan_tree c.args.of) (plan_tree c.in_ok-plan.plan) c.in_ok-plan.ensures
