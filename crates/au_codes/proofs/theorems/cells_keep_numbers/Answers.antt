-- The numbers of typed plans over cells fit where those of the plans do.
use Rattle.au_codes.proofs.PlanNumbers.{plan_cell_fits}
use Rattle.au_codes.proofs.theorems.cells_keep_numbers.Goals as goal

pub returns : goal.returns
returns c = plan_cell_fits
