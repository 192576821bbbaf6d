-- One FROM item at most.
use Rattle.std.proofs.Common.{◌∙◌, arith}
use Rattle.au_typing.proofs.FromItems.{is_join-few}
use Rattle.au_typing.proofs.from_items.is_join.Goals as goal

pub returns-else-from-gt1 : goal.returns-else-from-gt1
returns-else-from-gt1 c = c.has_join.ensures ∙ is_join-few c.args.from.now (omega arith)
