-- The plan is the definition's.
use Rattle.au_plain.specs.Plans.{plan_tree}
use Rattle.au_rwdiff.proofs.Added.{difference_adds}
use Rattle.au_rwdiff.proofs.Laws.{difference_gives}
use Rattle.au_rwdiff.proofs.subtraction.difference.Goals as goal

pub returns-clause-gives : goal.returns-clause-gives
returns-clause-gives c =
    difference_gives c.args.layout.now.columns (plan_tree c.args.left) (plan_tree c.args.right) (plan_tree c.in_ok-plan.plan) c.in_ok-plan.ensures

pub returns-clause-adds : goal.returns-clause-adds
returns-clause-adds c = difference_adds c.args.layout.now.columns (plan_tree c.args.left) (plan_tree c.args.right) (plan_tree c.in_ok-plan.plan) c.in_ok-plan.ensures
