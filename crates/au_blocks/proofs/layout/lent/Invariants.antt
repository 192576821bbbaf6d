use Rattle.std.proofs.Common.{◌≡◌, take}
use Rattle.au_blocks.specs.Order.{lent_records}
use Rattle.au_blocks.proofs.layout.lent.Given as goal

-- the records so far are lent
abbrev pub invariant-loop-place : goal.invariant-loop-place
invariant-loop-place l = lent_records l.records.items ≡ take l.place l.rows
