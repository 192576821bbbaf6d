-- The rows so far, with those of the blocks that are left, are those of all blocks.
use Rattle.std.proofs.Common.{◌≡◌, ◌++◌, drop}
use Rattle.au_translate.specs.Translate.{guessed_blocks}
use Rattle.au_translate.proofs.guesses.guessed_rows.Given as goal

abbrev pub invariant-loop-place : goal.invariant-loop-place
invariant-loop-place l = l.rel ++ guessed_blocks (drop l.place l.blocks) ≡ guessed_blocks l.blocks
