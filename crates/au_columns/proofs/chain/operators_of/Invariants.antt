-- The operators so far, with those below, are those of the chain.
use Rattle.std.proofs.Common.{◌≡◌, ◌++◌, length}
use Rattle.au_physical.specs.Physicals.{physical_tree}
use Rattle.au_columns.specs.Chains.{downward, lent_trees}
use Rattle.au_columns.proofs.chain.operators_of.Given as goal

abbrev pub invariant-loop-next : goal.invariant-loop-next
invariant-loop-next l = lent_trees l.operators.items ++ downward (physical_tree l.rest) ≡ downward (physical_tree l.plan)

abbrev pub decreases-loop-next : goal.decreases-loop-next
decreases-loop-next l = length (downward (physical_tree l.rest))
