-- The columns that are left.
use Rattle.std.proofs.Common.{◌≡◌, ◌++◌, true, length}
use Rattle.au_typing.specs.Queries.{kinds_fit, set_columns}
use Rattle.au_typing.proofs.sets.set_columns.Given as goal

abbrev pub invariant-loop-l : goal.invariant-loop-l
invariant-loop-l l = (l.columns.items ++ set_columns l.own l.other ≡ set_columns l.left l.right) × (kinds_fit l.own l.other ≡ true)

abbrev pub decreases-loop-l : goal.decreases-loop-l
decreases-loop-l l = length l.own
