-- The rows so far, with those of the blocks that are left, are those of all blocks, and their numbers lie in the range.
use Rattle.std.proofs.Common.{◌≡◌, ◌++◌, drop, map}
use Rattle.au_blocks.specs.Worlds.{guess_choice, rows_in}
use Rattle.au_plain.specs.PlanKinds.{FitRows}
use Rattle.au_exec.specs.HeldRows.{rows_of}
use Rattle.au_engine.proofs.answers.guess_rows.guess_rows.Given as goal

abbrev pub invariant-loop-place : goal.invariant-loop-place
invariant-loop-place l = record {
  rows : rows_of l.rows ++ rows_in (drop l.place l.blocks) (map guess_choice (drop l.place l.blocks)) ≡ rows_in l.blocks (map guess_choice l.blocks);
  fit : FitRows (rows_of l.rows);
}
