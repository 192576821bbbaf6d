use Rattle.std.proofs.Common.{arith, pos}
use Rattle.std.proofs.lemmas.List.{ext_get_or}
use Rattle.au_columns.proofs.wide.widen.Goals as goal

pub returns : goal.returns
returns c = ext_get_or (pos 0) _ _ (omega arith) (λ i below. c.loop-i.invariant i (omega arith))
