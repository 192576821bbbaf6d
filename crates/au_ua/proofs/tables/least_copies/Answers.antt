-- The next number.
use Rattle.std.proofs.Common.{arith}
use Rattle.std.proofs.lemmas.Grind.{common_steps}
use Rattle.au_translate.proofs.Places.{left_at}
use Rattle.au_ua.proofs.tables.least_copies.Goals as goal

pub loop-place-preserved : goal.loop-place-preserved
loop-place-preserved c =
    let next = left_at c.args.alternatives.now c.loop-place.place c.get-in-loop-place.result c.get-in-loop-place.ensures in
    grind (arith, common_steps)
