use Rattle.std.proofs.Common.{◌+◌, ◌*◌, length}
use Rattle.au_par.proofs.drawing.+starting.Given as goal

abbrev pub decreases-all_drawn : goal.decreases-all_drawn
decreases-all_drawn g l = 2 * length l.passes.items

abbrev pub decreases-back : goal.decreases-back
decreases-back g l = 2 * length l.passes.items + 1
