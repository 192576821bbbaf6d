-- The next alternative.
use Rattle.std.proofs.Common.{arith}
use Rattle.std.proofs.lemmas.Grind.{common_steps}
use Rattle.au_translate.proofs.Places.{left_at}
use Rattle.au_ua.proofs.tables.all_like.Goals as goal

pub returns-then-not-same : goal.returns-then-not-same
returns-then-not-same c =
    let next = left_at c.args.others.now c.loop-place.place c.get.result c.get.ensures in
    grind (arith, common_steps)

pub loop-place-preserved : goal.loop-place-preserved
loop-place-preserved c =
    let next = left_at c.args.others.now c.loop-place.place c.get.result c.get.ensures in
    grind (arith, common_steps)
