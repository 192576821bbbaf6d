-- The block's alternatives are read.
use Rattle.std.proofs.Common.{subst}
use Rattle.std.specs.List.{AllByRecursion}
use Rattle.au_translate.specs.HeldNumbers.{FitBlock, FitCandidate}
use Rattle.au_translate.proofs.Places.{all_left}
use Rattle.au_translate.proofs.held_numbers.read_blocks.Goals as goal

pub loop-place-preserved : goal.loop-place-preserved
loop-place-preserved c =
    let here = subst (AllByRecursion FitCandidate) c.alternatives.ensures.of c.read_alternatives.ensures in
    all_left c.args.blocks.now c.loop-place.place c.get.result c.get.ensures FitBlock here c.loop-place.invariant
