-- One place more.
use Rattle.std.proofs.Common.{arith, ◌∙◌, ◌++◌, ◌+◌, ◌-◌}
use Rattle.au_rwexpr.specs.Cells.{run}
use Rattle.au_combine.proofs.Steps.{run_step}
use Rattle.au_combine.proofs.places.push_run.Goals as goal

pub loop-left-preserved : goal.loop-left-preserved
loop-left-preserved c =
    let old = c.loop-left in
    record {
      placed =
          (λ i. c.in_ok-push.ensures.items i ++ run (old.place + 1) (old.left - 1))
          ∙ run_step old.places.items old.place old.left c.loop-left-test.true
          ∙ old.invariant.placed;
      room = omega (arith, old.invariant.room, c.loop-left-test.true);
    }
