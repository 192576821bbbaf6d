use Rattle.std.proofs.Common.{◌+◌, ◌*◌}
use Rattle.au_par.proofs.letting.+letting.Given as goal

abbrev pub decreases-let_go_of_all : goal.decreases-let_go_of_all
decreases-let_go_of_all g l = 2 * l.workers

abbrev pub decreases-back : goal.decreases-back
decreases-back g l = 2 * l.left + 1
