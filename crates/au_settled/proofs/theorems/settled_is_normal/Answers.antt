-- The laws of codes give the law.
use Rattle.au_settled.proofs.Normal.{settles}
use Rattle.au_settled.proofs.theorems.settled_is_normal.Goals as goal

pub returns : goal.returns
returns c = settles c.text_codes_keep_order.ensures c.cells_keep_normal.ensures c.cells_stand.ensures
