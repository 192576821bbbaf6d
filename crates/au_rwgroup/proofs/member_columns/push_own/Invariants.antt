-- The columns so far, with those that are left, are all.
use Rattle.std.proofs.Common.{◌≡◌, ◌++◌}
use Rattle.std.specs.Vec.Iter.{into_iter_items}
use Rattle.au_rwgroup.proofs.member_columns.push_own.Given as goal

abbrev pub invariant-loop-column : goal.invariant-loop-column
invariant-loop-column l = l.columns.items ++ into_iter_items l.column-iterator ≡ l.fn.columns.items ++ l.fn.own.items
