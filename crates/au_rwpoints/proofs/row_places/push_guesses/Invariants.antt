-- The places so far, with those of the ranges that are left, are those of all.
use Rattle.std.proofs.Common.{◌≡◌, ◌++◌, ◌+◌, ◌*◌}
use Rattle.au_rwpoints.specs.RowPlans.{guess_places}
use Rattle.au_rwpoints.proofs.row_places.push_guesses.Given as goal

abbrev pub invariant-loop-left : goal.invariant-loop-left
invariant-loop-left l = record {
  placed : l.places.items ++ guess_places l.place l.left ≡ l.fn.places.items ++ guess_places 0 l.fn.columns;
  room : l.place + 3 * l.left ≡ 3 * l.fn.columns;
}

abbrev pub decreases-loop-left : goal.decreases-loop-left
decreases-loop-left l = l.left
