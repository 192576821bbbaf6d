-- Plans over cells have the cells of their rows.
use Rattle.au_codes.proofs.PlanRows.{rows_coded}
use Rattle.au_codes.proofs.theorems.cells_keep_rows.Goals as goal

pub returns : goal.returns
returns c = rows_coded
