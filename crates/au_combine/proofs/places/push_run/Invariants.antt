-- The places so far, with those that are left, are all.
use Rattle.std.proofs.Common.{◌≡◌, ◌++◌, ◌+◌}
use Rattle.au_rwexpr.specs.Cells.{run}
use Rattle.au_combine.proofs.places.push_run.Given as goal

abbrev pub invariant-loop-left : goal.invariant-loop-left
invariant-loop-left l = record {
  placed : l.places.items ++ run l.place l.left ≡ l.fn.places.items ++ run l.fn.from l.fn.count;
  room : l.place + l.left ≡ l.fn.from + l.fn.count;
}

abbrev pub decreases-loop-left : goal.decreases-loop-left
decreases-loop-left l = l.left
