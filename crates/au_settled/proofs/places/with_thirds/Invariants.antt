-- The places so far, with those that are left, are all of them.
use Rattle.std.proofs.Common.{◌≡◌, ◌++◌, ◌+◌, ◌*◌}
use Rattle.au_settled.specs.Places.{every_third}
use Rattle.au_settled.proofs.places.with_thirds.Given as goal

abbrev pub invariant-loop-left : goal.invariant-loop-left
invariant-loop-left l = record {
  places : l.places.items ++ every_third l.place l.left ≡ l.fn.places.items ++ every_third l.fn.first l.fn.columns;
  room : l.place + 3 * l.left ≡ l.fn.first + 3 * l.fn.columns;
}

abbrev pub decreases-loop-left : goal.decreases-loop-left
decreases-loop-left l = l.left
