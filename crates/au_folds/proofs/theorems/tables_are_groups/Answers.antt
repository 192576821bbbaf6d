-- Tables are groups.
use Rattle.au_folds.proofs.TableLaws.{are_groups}
use Rattle.au_folds.proofs.theorems.tables_are_groups.Goals as goal

pub returns : goal.returns
returns c = are_groups
