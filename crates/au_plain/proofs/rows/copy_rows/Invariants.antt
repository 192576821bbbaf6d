-- The rows so far are copied.
use Rattle.std.proofs.Common.{◌≡◌, map, take}
use Rattle.au_plain.proofs.rows.copy_rows.Given as goal

abbrev pub invariant-loop-row : goal.invariant-loop-row
invariant-loop-row l = map (λ row. row.items) l.copied.items ≡ map (λ row. row.items) (take l.row-index l.rows)
