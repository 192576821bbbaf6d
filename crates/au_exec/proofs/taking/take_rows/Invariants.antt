-- The rows that were taken, with those that are left, are all rows.
use Rattle.std.proofs.Common.{◌≡◌, ◌++◌, ◌<◌, ◌≤◌, length}
use Rattle.std.specs.Vec.Iter.{into_iter_items}
use Rattle.au_exec.proofs.taking.take_rows.Given as goal

abbrev pub invariant-loop-taken : goal.invariant-loop-taken
invariant-loop-taken l = record {
  items : l.chunk.items ++ into_iter_items l.rows ≡ into_iter_items l.fn.rows;
  some : 0 < length l.chunk.items;
  few : length l.chunk.items ≤ l._taken;
}
