-- The ends of a hull do not depend on the order of the two ranges.
use Rattle.au_expr.proofs.Kept.{hull_otherwise}
use Rattle.au_expr.proofs.ranges.hull_of.Goals as goal

pub returns-else-first : goal.returns-else-first
returns-else-first c = hull_otherwise _ c.args.then.now c.args.otherwise.now _ c.if-first.false c.hull-else-first.ensures
