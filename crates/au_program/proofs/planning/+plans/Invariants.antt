-- Each call goes to a tree of fewer operators.
use Rattle.std.proofs.Common.{◌+◌, ◌*◌}
use Rattle.au_algebra.specs.Trees.{tree}
use Rattle.au_program.proofs.TreeSizes.{tree_size}
use Rattle.au_program.proofs.planning.+plans.Given as goal

abbrev pub decreases-planned : goal.decreases-planned
decreases-planned l = 4 * tree_size (tree l.query.now)

abbrev pub decreases-apart : goal.decreases-apart
decreases-apart l = 4 * tree_size (tree l.query.now) + 1

abbrev pub decreases-first_found : goal.decreases-first_found
decreases-first_found l = 4 * tree_size (tree l.query.now) + 2

abbrev pub decreases-first_combined : goal.decreases-first_combined
decreases-first_combined l = 4 * tree_size (tree l.query.now) + 2

abbrev pub decreases-grouped : goal.decreases-grouped
decreases-grouped l = 4 * tree_size (tree l.of.now) + 3

abbrev pub decreases-deduplicated : goal.decreases-deduplicated
decreases-deduplicated l = 4 * tree_size (tree l.of.now) + 3

abbrev pub decreases-paired : goal.decreases-paired
decreases-paired l = 4 * (tree_size (tree l.left.now) + tree_size (tree l.right.now)) + 3

abbrev pub decreases-united : goal.decreases-united
decreases-united l = 4 * (tree_size (tree l.left.now) + tree_size (tree l.right.now)) + 3

abbrev pub decreases-lessened : goal.decreases-lessened
decreases-lessened l = 4 * (tree_size (tree l.left.now) + tree_size (tree l.right.now)) + 3
