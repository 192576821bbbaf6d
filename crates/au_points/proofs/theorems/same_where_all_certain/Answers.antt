-- The law.
use Rattle.au_points.proofs.SureKeys as laws
use Rattle.au_points.proofs.theorems.same_where_all_certain.Goals as goal

pub returns : goal.returns
returns c = laws.same_where_all_certain
