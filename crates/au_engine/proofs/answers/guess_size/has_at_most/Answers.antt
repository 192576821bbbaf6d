-- The next block.
use Rattle.std.proofs.Common.{arith}
use Rattle.std.proofs.lemmas.Grind.{common_steps}
use Rattle.au_translate.proofs.Places.{left_at}
use Rattle.au_engine.proofs.answers.guess_size.has_at_most.Goals as goal

pub returns-then-copies-left : goal.returns-then-copies-left
returns-then-copies-left c =
    let next = left_at c.args.blocks.now c.loop-place.place c.get.result c.get.ensures in
    grind (arith, common_steps)

pub loop-place-preserved : goal.loop-place-preserved
loop-place-preserved c =
    let next = left_at c.args.blocks.now c.loop-place.place c.get.result c.get.ensures in
    grind (arith, common_steps)
