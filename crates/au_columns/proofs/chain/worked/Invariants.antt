-- The operators so far are those behind a place.
use Rattle.std.proofs.Common.{◌≤◌, length}
use Rattle.au_columns.specs.Chains.{lent_trees}
use Rattle.au_columns.proofs.Chains.{Taken}
use Rattle.au_columns.proofs.chain.worked.Given as goal

abbrev pub invariant-loop-left : goal.invariant-loop-left
invariant-loop-left l = record {
  taken : Taken (lent_trees l.operators) l.left l.fn.rows l.made;
  within : l.left ≤ length l.operators;
}

abbrev pub decreases-loop-left : goal.decreases-loop-left
decreases-loop-left l = l.left
