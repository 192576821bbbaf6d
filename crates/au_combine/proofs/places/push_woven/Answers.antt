-- One range more.
use Rattle.std.proofs.Common.{arith, ◌∙◌, ◌++◌, ◌+◌, ◌-◌}
use Rattle.au_combine.specs.Boxes.{weave}
use Rattle.au_combine.proofs.Steps.{woven_step}
use Rattle.au_combine.proofs.places.push_woven.Goals as goal

pub loop-left-preserved : goal.loop-left-preserved
loop-left-preserved c =
    let old = c.loop-left in
    record {
      placed =
          (λ i. c.in_ok-push_one_woven.ensures i ++ weave (old.guess + 1) (old.end + 2) (old.left - 1))
          ∙ woven_step old.places.items old.guess old.end old.left c.loop-left-test.true
          ∙ old.invariant.placed;
      guess_room = omega (arith, old.invariant.guess_room, c.loop-left-test.true);
      end_room = omega (arith, old.invariant.end_room, c.loop-left-test.true);
    }
