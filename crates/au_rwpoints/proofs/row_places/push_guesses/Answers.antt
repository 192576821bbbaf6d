-- One range more.
use Rattle.std.proofs.Common.{arith, ◌∙◌, ◌∷◌, [], ◌++◌, ◌+◌, ◌-◌}
use Rattle.au_rwpoints.specs.RowPlans.{guess_places}
use Rattle.au_rwpoints.proofs.Steps.{guesses_step}
use Rattle.au_rwpoints.proofs.row_places.push_guesses.Goals as goal

pub loop-left-preserved : goal.loop-left-preserved
loop-left-preserved c =
    let old = c.loop-left in
    record {
      placed =
          (λ i. c.in_ok-push_guess.ensures i ++ guess_places (old.place + 3) (old.left - 1))
          ∙ (λ i. (old.places.items ++ ((c.in_ok-at.ensures i + 1) ∷ (c.in_ok-at.ensures i + 1) ∷ (c.in_ok-at.ensures i + 1) ∷ [])) ++ guess_places (old.place + 3) (old.left - 1))
          ∙ guesses_step old.places.items old.place old.left c.loop-left-test.true
          ∙ old.invariant.placed;
      room = omega (arith, old.invariant.room, c.loop-left-test.true);
    }
