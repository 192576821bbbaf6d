-- The order of what is left of both lists is that of the lists.
use Rattle.std.proofs.Common.{◌≡◌, length, map}
use Rattle.std.specs.Cmp.Lexicographic.{slice_cmp}
use Rattle.au_value.specs.Order.{order}
use Rattle.au_algebra.specs.Ends.{end_of}
use Rattle.au_algebra.proofs.range_order.compare_ends.Given as goal

abbrev pub invariant-loop-x : goal.invariant-loop-x
invariant-loop-x l =
    slice_cmp order (map (end_of l.end) l.left) (map (end_of l.end) l.right) ≡ slice_cmp order (map (end_of l.end) l.fn.a) (map (end_of l.end) l.fn.b)

abbrev pub decreases-loop-x : goal.decreases-loop-x
decreases-loop-x l = length l.left
