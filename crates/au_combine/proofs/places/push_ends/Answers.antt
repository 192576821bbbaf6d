-- One range more.
use Rattle.std.proofs.Common.{arith, ◌∙◌, ◌++◌, ◌+◌, ◌-◌}
use Rattle.au_combine.specs.Boxes.{box_aggs}
use Rattle.au_combine.proofs.Steps.{ends_step}
use Rattle.au_combine.proofs.places.push_ends.Goals as goal

pub loop-left-preserved : goal.loop-left-preserved
loop-left-preserved c =
    let old = c.loop-left in
    record {
      placed =
          (λ i. c.in_ok-push_two_ends.ensures i ++ box_aggs (old.place + 3) (old.left - 1))
          ∙ ends_step old.aggs.items old.place old.left c.loop-left-test.true
          ∙ old.invariant.placed;
      room = omega (arith, old.invariant.room, c.loop-left-test.true);
    }
