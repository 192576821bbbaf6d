-- Both tables give that of all rows.
use Rattle.au_folds.proofs.MergeLaws.{in_two_parts}
use Rattle.au_folds.proofs.theorems.tables_come_in_parts.Goals as goal

pub returns : goal.returns
returns c = in_two_parts
