-- Each call goes to a part of the term.
use Rattle.std.proofs.Common.{◌+◌, ◌*◌}
use Rattle.au_parse.specs.Levels.{arms_tree}
use Rattle.au_parse.specs.Views.{term_tree}
use Rattle.au_typing.proofs.Sizes.{size}
use Rattle.au_typing.proofs.terms.+terms.Given as goal

abbrev pub decreases-typed_term : goal.decreases-typed_term
decreases-typed_term l = 2 * size (term_tree l.what.now)

abbrev pub decreases-typed_case : goal.decreases-typed_case
decreases-typed_case l = 2 * size (arms_tree l.arms.now (term_tree l.otherwise.now)) + 1

abbrev pub decreases-typed_aggregate : goal.decreases-typed_aggregate
decreases-typed_aggregate l = 2 * size (term_tree l.e.now) + 1
