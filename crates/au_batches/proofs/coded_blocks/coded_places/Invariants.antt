-- The batch has the codes of the places so far.
use Rattle.std.proofs.Common.{◌≡◌, take}
use Rattle.au_codes.specs.Codes.{coded_rows}
use Rattle.au_codes.specs.TextCodes.{text_code}
use Rattle.au_batches.specs.BlockRows.{block_rows}
use Rattle.au_batches.proofs.coded_blocks.coded_places.Given as goal

abbrev pub invariant-loop-number : goal.invariant-loop-number
invariant-loop-number l = l.batch ≡ coded_rows (text_code l.book) (block_rows (take l.number l.places) l.blocks)
