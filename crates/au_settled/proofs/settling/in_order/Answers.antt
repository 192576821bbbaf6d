-- Places that rise are those of rows in normal form.
use Rattle.au_settled.proofs.Pass.{rising_normal}
use Rattle.au_settled.proofs.settling.in_order.Goals as goal

pub apart-requires-clause-normal : goal.apart-requires-clause-normal
apart-requires-clause-normal c =
    rising_normal c.args.columns c.args.rows.now c.args.keys.now c.requires.keys c.args.places.now c.rise.result c.rise.ensures c.if-rise.true
