-- The passes over the plan keep it, and what is chosen for the last stands for it.
use Rattle.std.proofs.lemmas.Result.{IfOk-weaker}
use Rattle.au_plain.specs.Plans.{plan_tree}
use Rattle.au_physical.specs.Physicals.{physical_tree}
use Rattle.au_plan.proofs.Passes.{keeps_on, keeps_implements}
use Rattle.au_plan.proofs.improvement.improve.Goals as goal

pub returns : goal.returns
returns c =
    let passed = keeps_on (plan_tree c.args.plan) (plan_tree c.in_ok-pushed.pushed) (plan_tree c.in_ok-pruned.pruned) c.in_ok-pushed.ensures.keeps c.in_ok-pruned.ensures.same in
    IfOk-weaker c.choose.result _ _ (λ p stands. keeps_implements (plan_tree c.args.plan) (plan_tree c.in_ok-pruned.pruned) (physical_tree p) passed stands) c.choose.ensures
