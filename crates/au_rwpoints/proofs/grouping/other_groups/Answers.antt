-- The rows are those of the definition.
use Rattle.std.proofs.Common.{◌≤◌, ◌*◌, subst}
use Rattle.au_plain.specs.Plans.{plan_tree}
use Rattle.au_plain.specs.PlanNumbers.{scans}
use Rattle.au_rwgroup.specs.Gives.{Groups}
use Rattle.au_rwpoints.proofs.grouping.other_groups.Goals as goal

pub returns-clause-gives : goal.returns-clause-gives
returns-clause-gives c =
    let n = c.args.layout.now.columns in
    subst (λ q. Groups n c.args.keys c.args.aggs.now q (plan_tree c.in_ok-plan.plan)) c.in_ok-rows.ensures c.in_ok-plan.ensures.gives

pub returns-clause-scans : goal.returns-clause-scans
returns-clause-scans c = subst (λ q. scans (plan_tree c.in_ok-plan.plan) ≤ 2 * scans q) c.in_ok-rows.ensures c.in_ok-plan.ensures.scans
