-- The plan is the definition's.
use Rattle.std.proofs.Common.{map}
use Rattle.au_expr.specs.Terms.{term}
use Rattle.au_plain.specs.Plans.{plan_tree}
use Rattle.au_rwcore.proofs.Added.{project_adds}
use Rattle.au_rwcore.proofs.Laws.{project_gives}
use Rattle.au_rwcore.proofs.projection.project.Goals as goal

pub returns-clause-gives : goal.returns-clause-gives
returns-clause-gives c = project_gives c.args.layout.now.columns (map term c.args.items.now) (plan_tree c.args.of) (plan_tree c.in_ok-plan.plan) c.in_ok-plan.ensures

pub returns-clause-adds : goal.returns-clause-adds
returns-clause-adds c = project_adds c.args.layout.now.columns (map term c.args.items.now) (plan_tree c.args.of) (plan_tree c.in_ok-plan.plan) c.in_ok-plan.ensures
