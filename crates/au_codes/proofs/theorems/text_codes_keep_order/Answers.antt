-- The code of texts keeps their order.
use Rattle.au_codes.proofs.TextOrder.{texts_keep_order}
use Rattle.au_codes.proofs.theorems.text_codes_keep_order.Goals as goal

pub returns : goal.returns
returns c = texts_keep_order
