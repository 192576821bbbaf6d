use Rattle.std.proofs.Common.{◌≡◌, map, take}
use Rattle.au_blocks.specs.Order.{lent_numbered, lent_records}
use Rattle.au_blocks.proofs.gather.taken_apart.Given as goal

-- the records so far
abbrev pub invariant-loop-place : goal.invariant-loop-place
invariant-loop-place l = lent_records l.records.items ≡ map (λ p. p.1) (lent_numbered (take l.place l.numbered))
