-- The numbers of the blocks lie in the range, so those of their rows do.
use Rattle.au_translate.proofs.FitNumbers.{numbers_fit}
use Rattle.au_translate.proofs.held_numbers.read_numbers.Goals as goal

pub returns : goal.returns
returns c = numbers_fit c.args.blocks.now c.requires.blocks c.read_blocks.ensures
