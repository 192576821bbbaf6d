-- The texts so far, with those of the blocks that are left, are those of all blocks, and the rows that are left have their kinds.
use Rattle.std.proofs.Common.{◌≡◌, drop}
use Rattle.au_plain.specs.PlanKinds.{HaveKinds}
use Rattle.au_encode.specs.Encode.{encode}
use Rattle.au_translate.specs.Translate.{bounded_blocks}
use Rattle.au_codes.specs.Gathering.{with_rows}
use Rattle.au_batches.specs.BlockRows.{block_rows}
use Rattle.au_batches.specs.TextPlaces.{row_kinds}
use Rattle.au_batches.proofs.block_texts.add_blocks.Given as goal

abbrev pub invariant-loop-at : goal.invariant-loop-at
invariant-loop-at l = record {
  texts : with_rows l.texts (block_rows l.places (drop l.at l.blocks)) ≡ with_rows l.fn.texts (block_rows l.places l.blocks);
  kinds : HaveKinds (row_kinds l.columns) (encode (bounded_blocks (drop l.at l.blocks)));
}
