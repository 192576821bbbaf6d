-- The row of one block more.
use Rattle.au_translate.specs.Translate.{guessed_blocks}
use Rattle.au_translate.proofs.Guessing.{guessed_apart}
use Rattle.au_translate.proofs.Places.{next_rows}
use Rattle.au_translate.proofs.guesses.guessed_rows.Goals as goal

pub loop-place-preserved : goal.loop-place-preserved
loop-place-preserved c = next_rows c.args.blocks.now c.loop-place.place c.get.result c.get.ensures guessed_blocks guessed_apart c.loop-place.rel _ _ c.in_ok-push_guess.ensures c.loop-place.invariant
