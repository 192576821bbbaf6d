use Rattle.std.proofs.Common.{◌≡◌, drop, length}
use Rattle.std.specs.Prelude.{nat_lt}
use Rattle.std.specs.List.{list_any}
use Rattle.au_blocks.proofs.row_faults.has_value.Given as goal

-- the fields so far are empty
abbrev pub invariant-loop-place : goal.invariant-loop-place
invariant-loop-place l =
    list_any (λ text. nat_lt 0 (length text)) (drop 2 l.record) ≡ list_any (λ text. nat_lt 0 (length text)) (drop l.place (drop 2 l.record))
