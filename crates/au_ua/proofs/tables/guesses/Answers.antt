-- The next guess.
use Rattle.std.proofs.Common.{arith}
use Rattle.std.proofs.lemmas.Grind.{common_steps}
use Rattle.au_value.specs.Ranges.{guesses}
use Rattle.au_blocks.specs.Scalars.{scalar_value}
use Rattle.au_translate.proofs.Places.{left_at}
use Rattle.au_ua.proofs.tables.guesses.Goals as goal

pub loop-column-preserved : goal.loop-column-preserved
loop-column-preserved c =
    let next = left_at (guesses c.args.alternative.now.cells) c.loop-column.column (scalar_value c.sg.result) c.sg.ensures in
    grind (arith, common_steps)
