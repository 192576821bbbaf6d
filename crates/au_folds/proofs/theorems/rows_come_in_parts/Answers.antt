-- Rows come in parts.
use Rattle.au_folds.proofs.TableLaws.{in_parts}
use Rattle.au_folds.proofs.theorems.rows_come_in_parts.Goals as goal

pub returns : goal.returns
returns c = in_parts
