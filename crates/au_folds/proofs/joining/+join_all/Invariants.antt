-- The aggregates that are left.
use Rattle.std.proofs.Common.{length}
use Rattle.au_folds.proofs.joining.+join_all.Given as goal

abbrev pub decreases-join_all : goal.decreases-join_all
decreases-join_all l = length l.folds.now
