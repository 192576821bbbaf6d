-- Each call goes to a part of the term.
use Rattle.std.proofs.Common.{◌+◌, ◌*◌}
use Rattle.au_parse.specs.Levels.{arms_tree}
use Rattle.au_parse.specs.Views.{term_tree}
use Rattle.au_typing.proofs.Sizes.{size}
use Rattle.au_typing.proofs.aggregates.+aggregates.Given as goal

abbrev pub decreases-has_aggregate : goal.decreases-has_aggregate
decreases-has_aggregate l = 2 * size (term_tree l.what.now)

abbrev pub decreases-has_aggregate_in : goal.decreases-has_aggregate_in
decreases-has_aggregate_in l = 2 * size (arms_tree l.arms.now (term_tree l.otherwise.now)) + 1
