-- The rows so far, with those that are left, are all.
use Rattle.std.proofs.Common.{◌≡◌, ◌++◌, map, drop}
use Rattle.au_algebra.specs.Entries.{entry}
use Rattle.au_kfull.proofs.tuple.tuples.Given as goal

abbrev pub invariant-loop-cells : goal.invariant-loop-cells
invariant-loop-cells g l =
    l.lent.items ++ map (λ r. entry r.0.items r.1) (drop l.cells-index l.rows) ≡ map (λ r. entry r.0.items r.1) l.rows
