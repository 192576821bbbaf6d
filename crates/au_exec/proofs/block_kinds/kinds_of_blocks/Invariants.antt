-- None of the blocks so far has a row.
use Rattle.std.proofs.Common.{◌≡◌, drop}
use Rattle.au_batches.specs.BlockRows.{block_rows}
use Rattle.au_exec.specs.KnownKinds.{first_kinds}
use Rattle.au_exec.proofs.block_kinds.kinds_of_blocks.Given as goal

abbrev pub invariant-loop-at : goal.invariant-loop-at
invariant-loop-at l = first_kinds (block_rows l.places (drop l.at l.blocks)) ≡ first_kinds (block_rows l.places l.blocks)
