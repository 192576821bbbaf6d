-- The plan is the definition's.
use Rattle.au_plain.specs.Plans.{plan_tree}
use Rattle.au_combine.proofs.Added.{combine_adds}
use Rattle.au_combine.proofs.Laws.{combine_gives}
use Rattle.au_combine.proofs.combining.combine.Goals as goal

pub returns-clause-gives : goal.returns-clause-gives
returns-clause-gives c = combine_gives c.args.layout.now.columns (plan_tree c.args.of) (plan_tree c.in_ok-plan.plan) c.in_ok-plan.ensures

pub returns-clause-adds : goal.returns-clause-adds
returns-clause-adds c = combine_adds c.args.layout.now.columns (plan_tree c.args.of) (plan_tree c.in_ok-plan.plan) c.in_ok-plan.ensures
