-- The count so far, with the rows of the blocks that are left, is that of all rows, and no block has two.
use Rattle.std.proofs.Common.{◌≡◌, ◌≤◌, ◌+◌, drop, length}
use Rattle.au_translate.specs.Translate.{bounded_blocks}
use Rattle.au_translate.proofs.lent_places.counted_rows.Given as goal

abbrev pub invariant-loop-place : goal.invariant-loop-place
invariant-loop-place l = record {
  rows : l.count + length (bounded_blocks (drop l.place l.blocks)) ≡ length (bounded_blocks l.blocks);
  few : l.count ≤ l.place;
}
