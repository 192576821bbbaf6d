-- Cells stand for the values that they were made of.
use Rattle.au_codes.proofs.TextsBack.{row_back}
use Rattle.au_codes.proofs.theorems.cells_stand.Goals as goal

pub returns : goal.returns
returns c = row_back
