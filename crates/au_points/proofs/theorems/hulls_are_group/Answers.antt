-- The law.
use Rattle.au_points.proofs.HullsAreGroup as laws
use Rattle.au_points.proofs.theorems.hulls_are_group.Goals as goal

pub returns : goal.returns
returns c = laws.hulls_are_group
