-- The rows so far, with those that are left, are all.
use Rattle.std.proofs.Common.{◌≡◌, ◌++◌, drop}
use Rattle.au_kfull.proofs.tuple.all_again.Given as goal

abbrev pub invariant-loop-row : goal.invariant-loop-row
invariant-loop-row g l = l.same.items ++ drop l.row-index l.rows ≡ l.rows
