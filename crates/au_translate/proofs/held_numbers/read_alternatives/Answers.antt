-- The alternative's cells are read.
use Rattle.au_translate.specs.HeldNumbers.{FitCandidate}
use Rattle.au_translate.proofs.Places.{all_left}
use Rattle.au_translate.proofs.held_numbers.read_alternatives.Goals as goal

pub loop-place-preserved : goal.loop-place-preserved
loop-place-preserved c = all_left c.args.alternatives.now c.loop-place.place c.get.result c.get.ensures FitCandidate c.read_cells.ensures c.loop-place.invariant
