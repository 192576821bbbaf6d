-- Places that stand in order, as many as there are columns, are all.
use Rattle.std.proofs.Common.{arith}
use Rattle.au_passes.proofs.MarkLaws.{in_order}
use Rattle.au_passes.proofs.narrow.are_all.Goals as goal

pub returns : goal.returns
returns c = λ yes. in_order c.args.places.now c.args.count c.if-places-count.false (λ k l. c.loop-i.invariant k (omega arith))
