-- Short texts are never added.
use Rattle.au_blocks.specs.Held.{block_at}
use Rattle.au_batches.proofs.ShortTexts.{short_at}
use Rattle.au_batches.proofs.block_texts.add_long.Goals as goal

pub returns-then-has_short : goal.returns-then-has_short
returns-then-has_short c =
    let short = c.has_short.ensures c.if-has_short.true in
    short_at c.args.block.now (block_at c.args.rows.now c.args.extent.now) c.requires.held c.requires.within.block c.args.place short c.args.texts.now
