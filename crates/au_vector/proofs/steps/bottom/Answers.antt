-- One operator further down.
use Rattle.std.proofs.Common.{◌<◌, arith, sym, ◌∙◌}
use Rattle.au_physical.specs.Physicals.{physical_tree}
use Rattle.au_vector.specs.PlanSteps.{plan_size}
use Rattle.au_vector.proofs.StepLaws.{bottom_of_next, is_bottom, next_smaller}
use Rattle.au_vector.proofs.steps.bottom.Goals as goal

pub loop-next-smaller : goal.loop-next-smaller
loop-next-smaller c = next_smaller (physical_tree c.loop-next.rest.now) (physical_tree c.in-Some.next.now) c.in-Some.ensures

pub loop-next-preserved : goal.loop-next-preserved
loop-next-preserved c =
    let less : plan_size (physical_tree c.in-Some.next.now) < plan_size (physical_tree c.loop-next.rest.now) = next_smaller (physical_tree c.loop-next.rest.now) (physical_tree c.in-Some.next.now) c.in-Some.ensures in
    record {
      bottom = sym (bottom_of_next (physical_tree c.loop-next.rest.now) (physical_tree c.in-Some.next.now) c.in-Some.ensures) ∙ c.loop-next.invariant.bottom;
      smaller = omega (arith, less, c.loop-next.invariant.smaller);
    }

pub returns-clause-bottom : goal.returns-clause-bottom
returns-clause-bottom c = is_bottom (physical_tree c.loop-next.rest.now) c.in_default.ensures ∙ c.loop-next.invariant.bottom
