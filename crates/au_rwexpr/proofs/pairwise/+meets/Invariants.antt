-- The columns that are left fall.
use Rattle.au_rwexpr.proofs.pairwise.+meets.Given as goal

abbrev pub decreases-meets : goal.decreases-meets
decreases-meets l = l.columns
