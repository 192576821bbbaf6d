-- The normal form over cells is the cells of the normal form.
use Rattle.au_codes.proofs.NormalCells.{normal_coded}
use Rattle.au_codes.proofs.theorems.cells_keep_normal.Goals as goal

pub returns : goal.returns
returns c = normal_coded
