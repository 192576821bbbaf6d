-- The bits side by side.
use Rattle.au_folds.proofs.PackedLaws.{joined_is}
use Rattle.au_folds.proofs.packed.joined.Goals as goal

pub returns : goal.returns
returns c = λ q fits high low. joined_is c.args.width c.args.high c.args.low q fits high low
