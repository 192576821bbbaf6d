-- The texts so far, with those of the places that are left, are those of all places.
use Rattle.std.proofs.Common.{◌≡◌, ◌∷◌, [], drop}
use Rattle.au_codes.specs.Gathering.{with_rows}
use Rattle.au_batches.specs.BlockRows.{block_rows}
use Rattle.au_batches.proofs.block_texts.add_block.Given as goal

abbrev pub invariant-loop-place : goal.invariant-loop-place
invariant-loop-place l = with_rows l.texts (block_rows (drop l.place-index l.places) (l.block ∷ [])) ≡ with_rows l.fn.texts (block_rows l.places (l.block ∷ []))
