-- The rows are those of the definition.
use Rattle.std.proofs.Common.{◌≤◌, ◌∙◌, ap, subst}
use Rattle.au_plain.specs.Plans.{plan_tree}
use Rattle.au_plain.specs.PlanNumbers.{scans}
use Rattle.au_rwgroup.specs.Gives.{Distincts}
use Rattle.au_rwpoints.specs.RowPlans.{guess_plan}
use Rattle.au_rwpoints.proofs.grouping.distinct_guesses.Goals as goal

pub returns-clause-gives : goal.returns-clause-gives
returns-clause-gives c =
    let n = c.args.layout.now.columns in
    subst (λ q. Distincts n q (plan_tree c.in_ok-plan.plan)) (c.in_ok-rows.ensures ∙ ap (guess_plan n) c.in_ok-copy.ensures) c.in_ok-plan.ensures.gives

pub returns-clause-scans : goal.returns-clause-scans
returns-clause-scans c =
    let n = c.args.layout.now.columns in
    subst (λ q. scans (plan_tree c.in_ok-plan.plan) ≤ scans q) (c.in_ok-rows.ensures ∙ ap (guess_plan n) c.in_ok-copy.ensures) c.in_ok-plan.ensures.scans
