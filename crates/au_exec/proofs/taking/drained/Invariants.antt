-- The rows so far, with the rest, are those that were ready.
use Rattle.std.proofs.Common.{◌≡◌, ◌++◌}
use Rattle.std.specs.Vec.Iter.{into_iter_items}
use Rattle.au_exec.proofs.taking.drained.Given as goal

abbrev pub invariant-loop-row : goal.invariant-loop-row
invariant-loop-row l = l.all.items ++ into_iter_items l.row-iterator ≡ into_iter_items l.fn.rows
