-- One range fewer each time.
use Rattle.au_rwgroup.proofs.count_terms.+all_sure.Given as goal

abbrev pub decreases-all_sure : goal.decreases-all_sure
decreases-all_sure l = l.columns
