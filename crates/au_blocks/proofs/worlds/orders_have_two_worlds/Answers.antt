use Rattle.au_blocks.proofs.OrderWorlds.{orders_is_table, orders_worlds}
use Rattle.au_blocks.proofs.worlds.orders_have_two_worlds.Goals as goal

pub returns : goal.returns
returns c = (orders_is_table, orders_worlds)
