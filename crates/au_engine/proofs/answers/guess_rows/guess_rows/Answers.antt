-- The rows of the next block.
use Rattle.std.proofs.Common.{arith}
use Rattle.std.proofs.lemmas.Grind.{common_steps}
use Rattle.au_translate.proofs.Places.{left_at}
use Rattle.au_engine.proofs.answers.guess_rows.guess_rows.Goals as goal

pub loop-place-preserved : goal.loop-place-preserved
loop-place-preserved c =
    let next = left_at c.args.blocks.now c.loop-place.place c.get.result c.get.ensures in
    record {
      rows = grind (arith, common_steps);
      fit = grind (arith, common_steps);
    }
