-- The law.
use Rattle.au_points.proofs.Laws as laws
use Rattle.au_points.proofs.theorems.points_keep_groups.Goals as goal

pub returns : goal.returns
returns c = laws.points_keep_groups
