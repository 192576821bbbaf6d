-- One range more.
use Rattle.std.proofs.Common.{arith, ◌∙◌, ◌++◌, ◌+◌, ◌-◌}
use Rattle.au_combine.specs.Boxes.{sg_places}
use Rattle.au_combine.proofs.Steps.{guess_step}
use Rattle.au_combine.proofs.places.push_guesses.Goals as goal

pub loop-left-preserved : goal.loop-left-preserved
loop-left-preserved c =
    let old = c.loop-left in
    record {
      placed =
          (λ i. c.in_ok-push.ensures.items i ++ sg_places (old.place + 3) (old.left - 1))
          ∙ guess_step old.places.items old.place old.left c.loop-left-test.true
          ∙ old.invariant.placed;
      room = omega (arith, old.invariant.room, c.loop-left-test.true);
    }
