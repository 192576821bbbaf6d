-- Tables stay alike.
use Rattle.au_folds.proofs.MergeLaws.{stay_alike}
use Rattle.au_folds.proofs.theorems.tables_stay_alike.Goals as goal

pub returns : goal.returns
returns c = stay_alike
