-- The law for typed expressions.
use Rattle.au_expr.proofs.Held as proof
use Rattle.au_expr.proofs.theorems.ranges_hold_values.Goals as goal

pub returns : goal.returns
returns c = proof.ranges_hold_values
