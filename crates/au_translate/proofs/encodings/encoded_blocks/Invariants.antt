-- The rows so far, with those of the blocks that are left, are those of all blocks, and their numbers lie in the range.
use Rattle.std.proofs.Common.{◌≡◌, ◌++◌, drop, map}
use Rattle.au_plain.specs.PlanKinds.{FitRows}
use Rattle.au_encode.specs.Encode.{encode}
use Rattle.au_translate.specs.Translate.{bounded_blocks}
use Rattle.au_translate.proofs.encodings.encoded_blocks.Given as goal

abbrev pub invariant-loop-place : goal.invariant-loop-place
invariant-loop-place l = record {
  rows : map (λ row. row.items) l.rows.items ++ encode (bounded_blocks (drop l.place l.blocks)) ≡ encode (bounded_blocks l.blocks);
  fit : FitRows (map (λ row. row.items) l.rows.items);
}
