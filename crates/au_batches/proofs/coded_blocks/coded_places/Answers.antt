-- No column has the codes of no place, and with one column more stand those of one place more.
use Rattle.std.proofs.Common.{◌∙◌, [], ap, replicate, sym}
use Rattle.std.proofs.lemmas.List.{length-map}
use Rattle.au_encode.specs.Encode.{encode, encode_row}
use Rattle.au_translate.specs.Translate.{bounded_blocks}
use Rattle.au_codes.specs.TextCodes.{text_code}
use Rattle.au_batches.proofs.PlaceColumns.{no_places}
use Rattle.au_batches.proofs.coded_blocks.coded_places.Goals as goal

pub loop-number-init : goal.loop-number-init
loop-number-init c =
    let rows = encode (bounded_blocks c.args.blocks.now) in
    c.new-batch.ensures
    ∙ (ap (λ n. replicate n []) (c.row_count-count.ensures ∙ sym (length-map (bounded_blocks c.args.blocks.now) encode_row))
    ∙ no_places (text_code c.args.book.now) rows)
