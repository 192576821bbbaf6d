-- The places so far, with those of the ranges that are left, are those of all.
use Rattle.std.proofs.Common.{◌≡◌, ◌++◌, ◌+◌, ◌*◌}
use Rattle.au_combine.specs.Boxes.{weave}
use Rattle.au_combine.proofs.places.push_woven.Given as goal

abbrev pub invariant-loop-left : goal.invariant-loop-left
invariant-loop-left l = record {
  placed : l.places.items ++ weave l.guess l.end l.left ≡ l.fn.places.items ++ weave l.fn.guesses l.fn.ends l.fn.columns;
  guess_room : l.guess + l.left ≡ l.fn.guesses + l.fn.columns;
  end_room : l.end + 2 * l.left ≡ l.fn.ends + 2 * l.fn.columns;
}

abbrev pub decreases-loop-left : goal.decreases-loop-left
decreases-loop-left l = l.left
