-- Each call goes to a part of the term.
use Rattle.std.proofs.Common.{◌+◌, ◌*◌}
use Rattle.au_parse.specs.Levels.{arms_tree}
use Rattle.au_parse.specs.Views.{term_tree}
use Rattle.au_typing.proofs.Sizes.{size}
use Rattle.au_typing.proofs.aggregates.+columns.Given as goal

abbrev pub decreases-names_column : goal.decreases-names_column
decreases-names_column l = 2 * size (term_tree l.argument.now)

abbrev pub decreases-names_column_in : goal.decreases-names_column_in
decreases-names_column_in l = 2 * size (arms_tree l.arms.now (term_tree l.otherwise.now)) + 1
