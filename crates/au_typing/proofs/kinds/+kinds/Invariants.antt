-- Each call goes to a part of the term.
use Rattle.std.proofs.Common.{◌+◌, ◌*◌}
use Rattle.au_parse.specs.Levels.{arms_tree}
use Rattle.au_parse.specs.Views.{term_tree}
use Rattle.au_typing.proofs.Sizes.{size}
use Rattle.au_typing.proofs.kinds.+kinds.Given as goal

abbrev pub decreases-kind_of : goal.decreases-kind_of
decreases-kind_of l = 2 * size (term_tree l.what.now)

abbrev pub decreases-kind_of_case : goal.decreases-kind_of_case
decreases-kind_of_case l = 2 * size (arms_tree l.arms.now (term_tree l.otherwise.now)) + 1
