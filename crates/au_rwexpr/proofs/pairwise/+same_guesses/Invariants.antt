-- The columns that are left fall.
use Rattle.au_rwexpr.proofs.pairwise.+same_guesses.Given as goal

abbrev pub decreases-same_guesses : goal.decreases-same_guesses
decreases-same_guesses l = l.columns
