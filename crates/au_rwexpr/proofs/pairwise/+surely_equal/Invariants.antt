-- The columns that are left fall.
use Rattle.au_rwexpr.proofs.pairwise.+surely_equal.Given as goal

abbrev pub decreases-surely_equal : goal.decreases-surely_equal
decreases-surely_equal l = l.columns
