-- The hull of two ranges holds what either holds.
use Rattle.au_value.proofs.RangeLaws.{hull_holds_left, hull_holds_right}
use Rattle.au_value.proofs.theorems.hull_holds_both.Goals as goal

pub returns : goal.returns
returns c = record { first = hull_holds_left; second = hull_holds_right }
