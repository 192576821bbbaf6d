-- The law.
use Rattle.au_points.proofs.PointsKeep as laws
use Rattle.au_points.proofs.theorems.points_guess_alike.Goals as goal

pub returns : goal.returns
returns c = laws.points_guess_alike
