-- The order of values is total.
use Rattle.au_value.proofs.OrderLaws.{order_total}
use Rattle.au_value.proofs.theorems.order_is_total.Goals as goal

pub returns : goal.returns
returns c = order_total
