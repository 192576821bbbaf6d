-- The rows so far, with those of the blocks that are left, are those of all blocks.
use Rattle.std.proofs.Common.{◌≡◌, ◌++◌, drop}
use Rattle.au_translate.specs.Translate.{bounded_blocks}
use Rattle.au_translate.proofs.relations.bounded_rows.Given as goal

abbrev pub invariant-loop-place : goal.invariant-loop-place
invariant-loop-place l = l.rel ++ bounded_blocks (drop l.place l.blocks) ≡ bounded_blocks l.blocks
