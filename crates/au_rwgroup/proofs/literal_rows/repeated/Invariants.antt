-- The values so far, with those that are left, are all.
use Rattle.std.proofs.Common.{◌≡◌, ◌++◌, replicate}
use Rattle.au_rwgroup.proofs.literal_rows.repeated.Given as goal

abbrev pub invariant-loop-left : goal.invariant-loop-left
invariant-loop-left l = l.row.items ++ replicate l.left l.value ≡ replicate l.fn.width l.value

abbrev pub decreases-loop-left : goal.decreases-loop-left
decreases-loop-left l = l.left
