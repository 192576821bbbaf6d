-- The columns that are left.
use Rattle.std.proofs.Common.{◌≡◌, length}
use Rattle.au_typing.specs.Queries.{kinds_fit}
use Rattle.au_typing.proofs.sets.kinds_fit.Given as goal

abbrev pub invariant-loop-l : goal.invariant-loop-l
invariant-loop-l l = kinds_fit l.own l.other ≡ kinds_fit l.left l.right

abbrev pub decreases-loop-l : goal.decreases-loop-l
decreases-loop-l l = length l.own
