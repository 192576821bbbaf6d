-- The cell's three values are read.
use Rattle.au_value.specs.Ranges.{range}
use Rattle.au_blocks.specs.Scalars.{scalar_value}
use Rattle.au_translate.specs.HeldNumbers.{FitSpan}
use Rattle.au_translate.proofs.FitNumbers.{span_by}
use Rattle.au_translate.proofs.Places.{all_left}
use Rattle.au_translate.proofs.held_numbers.read_cells.Goals as goal

pub loop-at-preserved : goal.loop-at-preserved
loop-at-preserved c =
    let cells = c.args.alternative.now.cells in
    let lo = scalar_value c.lo.result in
    let sg = scalar_value c.sg.result in
    let hi = scalar_value c.hi.result in
    let here : FitSpan (range lo sg hi) = record { lo = c.read_value.ensures; sg = c.read_value-in-loop-at.ensures; hi = c.read_value-in-loop-at-2.ensures } in
    all_left cells c.loop-at.at (range lo sg hi) (span_by cells c.loop-at.at lo sg hi c.lo.ensures c.sg.ensures c.hi.ensures) FitSpan here c.loop-at.invariant
