-- The code knows the texts of the rows of typed plans.
use Rattle.au_codes.proofs.PlanRows.{rows_known}
use Rattle.au_codes.proofs.theorems.rows_stay_known.Goals as goal

pub returns : goal.returns
returns c = rows_known
