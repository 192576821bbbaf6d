-- The block's own texts are short.
use Rattle.std.proofs.Common.{[], subst}
use Rattle.std.specs.Prelude.{IsTrue}
use Rattle.std.specs.List.{AllByRecursion}
use Rattle.au_codes.specs.TextCodes.{knows_text}
use Rattle.au_batches.proofs.ShortTexts.{short_here}
use Rattle.au_batches.proofs.block_texts.has_short.Goals as goal

pub returns-in-Some : goal.returns-in-Some
returns-in-Some c =
    λ t. short_here c.args.rows.now c.args.extent.now c.args.at c.in-Some.texts.now c.in-Some.ensures (subst (AllByRecursion (λ w. IsTrue (knows_text [] w))) c.own.ensures (c.are_short.ensures t))
