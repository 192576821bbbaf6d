-- One range fewer each time.
use Rattle.au_rwpoints.proofs.row_plans.+all_sure.Given as goal

abbrev pub decreases-all_sure : goal.decreases-all_sure
decreases-all_sure l = l.columns
