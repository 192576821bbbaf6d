-- The alternatives and the places of all blocks.
use Rattle.std.proofs.Common.{◌∙◌, filter, sym, ap}
use Rattle.au_blocks.specs.Columns.{alternatives_of}
use Rattle.au_blocks.specs.Inferring.{is_alternative}
use Rattle.au_blocks.proofs.TakenRecords.{wide-taken}
use Rattle.au_blocks.proofs.intake.Intake.finish.Goals as goal

pub returns : goal.returns
returns c f width kinds rows once long taken =
    let order = rw c.in-Some.is at (c.in_ok-extents.ensures.order f rows taken.blocks) in
    record {
      sound = rw c.in-Some.is at (c.in_ok-extents.ensures.sound f rows taken.blocks);
      made = c.in_ok-alternatives.ensures f kinds (filter (is_alternative f) rows) once taken.columns (sym taken.count) (wide-taken f width kinds rows long taken.fitting)
          ∙ ap (alternatives_of f kinds) (sym order);
      placed = rw c.in-Some.is at (c.in_ok-extents.ensures.places f rows taken.blocks);
    }
