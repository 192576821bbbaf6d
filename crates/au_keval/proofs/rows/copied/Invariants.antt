-- The rows so far are copied.
use Rattle.std.proofs.Common.{◌≡◌, take}
use Rattle.au_keval.specs.Held.{held_entries}
use Rattle.au_keval.proofs.rows.copied.Given as goal

abbrev pub invariant-loop-row : goal.invariant-loop-row
invariant-loop-row g l = held_entries l.done.items ≡ held_entries (take l.row-index l.rows)
