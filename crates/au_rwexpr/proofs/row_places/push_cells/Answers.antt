-- One range more.
use Rattle.std.proofs.Common.{arith, ◌∙◌, ◌++◌, ◌+◌, ◌-◌}
use Rattle.au_rwexpr.specs.Cells.{cell_places, three_places}
use Rattle.au_rwexpr.proofs.CellSteps.{cells_step}
use Rattle.au_rwexpr.proofs.row_places.push_cells.Goals as goal

pub loop-left-preserved : goal.loop-left-preserved
loop-left-preserved c =
    let old = c.loop-left in
    record {
      placed =
          (λ i. c.in_ok-push_three.ensures i ++ cell_places (old.place + 3) (old.left - 1))
          ∙ (λ i. (old.places.items ++ three_places (c.in_ok-at.ensures i)) ++ cell_places (old.place + 3) (old.left - 1))
          ∙ cells_step old.places.items old.place old.left c.loop-left-test.true
          ∙ old.invariant.placed;
      room = omega (arith, old.invariant.room, c.loop-left-test.true);
    }
