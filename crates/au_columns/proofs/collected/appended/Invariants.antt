-- The columns so far have the numbers of the others behind their own.
use Rattle.std.proofs.Common.{◌≡◌, map}
use Rattle.au_columns.specs.Batches.{joined}
use Rattle.au_columns.proofs.collected.appended.Given as goal

abbrev pub invariant-loop-place : goal.invariant-loop-place
invariant-loop-place l = l.made.items ≡ joined l.place l.fn.columns.items (map (λ c. c.value) l.more)
