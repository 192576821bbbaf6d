-- The numbers that are left.
use Rattle.std.proofs.Common.{length}
use Rattle.au_folds.proofs.packed.+list_packed.Given as goal

abbrev pub decreases-list_packed : goal.decreases-list_packed
decreases-list_packed l = length l.key.now
