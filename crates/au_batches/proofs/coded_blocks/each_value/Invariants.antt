-- The codes so far, with those of the blocks that are left, are those of all blocks.
use Rattle.std.proofs.Common.{◌≡◌, ◌++◌, drop, map}
use Rattle.au_codes.specs.Codes.{code}
use Rattle.au_codes.specs.TextCodes.{text_code}
use Rattle.au_batches.specs.BlockRows.{in_place}
use Rattle.au_batches.proofs.coded_blocks.each_value.Given as goal

abbrev pub invariant-loop-at : goal.invariant-loop-at
invariant-loop-at l = l.numbers ++ map (code (text_code l.book)) (in_place l.place (drop l.at l.blocks)) ≡ map (code (text_code l.book)) (in_place l.place l.blocks)
