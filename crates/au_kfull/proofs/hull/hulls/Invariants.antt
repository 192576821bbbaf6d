-- The hulls so far, with those of what is left, are all.
use Rattle.std.proofs.Common.{◌≡◌, ◌++◌, length}
use Rattle.au_value.specs.Ranges.{hulls}
use Rattle.au_kfull.specs.Keys.{kinds}
use Rattle.au_kfull.proofs.hull.hulls.Given as goal

abbrev pub invariant-loop-x : goal.invariant-loop-x
invariant-loop-x l = record {
  made : l.hulls.items ++ hulls l.left l.right ≡ hulls l.a l.b;
  one_kinds : kinds l.left ≡ kinds l.right;
}

abbrev pub decreases-loop-x : goal.decreases-loop-x
decreases-loop-x l = length l.left
