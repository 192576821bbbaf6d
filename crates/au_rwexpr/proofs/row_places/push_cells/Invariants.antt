-- The places so far, with those of the ranges that are left, are those of all.
use Rattle.std.proofs.Common.{◌≡◌, ◌++◌, ◌+◌, ◌*◌}
use Rattle.au_rwexpr.specs.Cells.{cell_places}
use Rattle.au_rwexpr.proofs.row_places.push_cells.Given as goal

abbrev pub invariant-loop-left : goal.invariant-loop-left
invariant-loop-left l = record {
  placed : l.places.items ++ cell_places l.place l.left ≡ l.fn.places.items ++ cell_places l.fn.from l.fn.columns;
  room : l.place + 3 * l.left ≡ l.fn.from + 3 * l.fn.columns;
}

abbrev pub decreases-loop-left : goal.decreases-loop-left
decreases-loop-left l = l.left
