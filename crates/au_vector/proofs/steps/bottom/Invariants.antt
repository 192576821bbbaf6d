-- What is at the bottom of the rest is at the bottom of the plan.
use Rattle.std.proofs.Common.{◌≡◌, ◌≤◌}
use Rattle.au_physical.specs.Physicals.{physical_tree}
use Rattle.au_vector.specs.PlanSteps.{bottom, plan_size}
use Rattle.au_vector.proofs.steps.bottom.Given as goal

abbrev pub invariant-loop-next : goal.invariant-loop-next
invariant-loop-next l = record {
  bottom : bottom (physical_tree l.rest) ≡ bottom (physical_tree l.plan);
  smaller : plan_size (physical_tree l.rest) ≤ plan_size (physical_tree l.plan);
}

abbrev pub decreases-loop-next : goal.decreases-loop-next
decreases-loop-next l = plan_size (physical_tree l.rest)
