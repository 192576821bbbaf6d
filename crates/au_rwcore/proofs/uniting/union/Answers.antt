-- The plan is the definition's.
use Rattle.au_plain.specs.Plans.{plan_tree}
use Rattle.au_rwcore.proofs.Added.{union_adds}
use Rattle.au_rwcore.proofs.Laws.{union_gives}
use Rattle.au_rwcore.proofs.uniting.union.Goals as goal

pub returns-clause-gives : goal.returns-clause-gives
returns-clause-gives c = union_gives (plan_tree c.args.left) (plan_tree c.args.right) (plan_tree c.in_ok-plan.plan) c.in_ok-plan.ensures

pub returns-clause-adds : goal.returns-clause-adds
returns-clause-adds c = union_adds (plan_tree c.args.left) (plan_tree c.args.right) (plan_tree c.in_ok-plan.plan) c.in_ok-plan.ensures
