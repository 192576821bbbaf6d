-- Blocks that stand once have a row each.
use Rattle.std.proofs.Common.{◌∙◌, ap, length, sym}
use Rattle.std.proofs.lemmas.List.{length-map}
use Rattle.au_translate.specs.Translate.{block_row}
use Rattle.au_translate.proofs.SingleBlocks.{rows_once}
use Rattle.au_translate.proofs.lent_places.row_count.Goals as goal

pub returns-then-stand_once : goal.returns-then-stand_once
returns-then-stand_once c =
    let bs = c.args.blocks.now in
    let all = sym c.stand_once.ensures ∙ c.if-stand_once.true in
    c.len.ensures ∙ sym (ap length (rows_once bs all) ∙ length-map bs block_row)
