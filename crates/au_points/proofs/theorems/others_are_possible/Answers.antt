-- The law.
use Rattle.au_points.proofs.OthersPossible as laws
use Rattle.au_points.proofs.theorems.others_are_possible.Goals as goal

pub returns : goal.returns
returns c = laws.others_are_possible
