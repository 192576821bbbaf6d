-- The rows so far, with those of the blocks that are left, are those of all blocks, and the numbers lie in the range.
use Rattle.std.proofs.Common.{◌≡◌, ◌++◌, drop, map}
use Rattle.std.specs.List.{AllByRecursion}
use Rattle.au_plain.specs.Meaning.{kept}
use Rattle.au_rwcounted.specs.CountedRows.{counts_rows, two_counts}
use Rattle.au_ua.specs.UaTables.{ua_blocks}
use Rattle.au_ua.proofs.CountedFits.{FitMarked}
use Rattle.au_ua.proofs.counted_rows.counted_places.Given as goal

abbrev pub invariant-loop-place : goal.invariant-loop-place
invariant-loop-place l = record {
  rows : map (λ row. row.items) l.rows.items ++ map (kept l.places) (counts_rows (map two_counts (ua_blocks (drop l.place l.blocks)))) ≡ map (kept l.places) (counts_rows (map two_counts (ua_blocks l.blocks)));
  fit : AllByRecursion FitMarked (drop l.place l.blocks) → AllByRecursion FitMarked l.blocks;
}
