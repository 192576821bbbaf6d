-- The aggregates that are left.
use Rattle.std.proofs.Common.{length}
use Rattle.au_folds.proofs.fold.+put_all.Given as goal

abbrev pub decreases-put_all : goal.decreases-put_all
decreases-put_all l = length l.folds.now
