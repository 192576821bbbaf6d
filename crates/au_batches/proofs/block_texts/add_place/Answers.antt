-- Where no text stands, none is added.
use Rattle.std.proofs.Common.{◌≡◌, ◌/◌, ◌∙◌, ◌∷◌, [], false, sym}
use Rattle.au_blocks.specs.Tables.{column_kinds, table}
use Rattle.au_encode.specs.Encode.{encode}
use Rattle.au_translate.specs.Translate.{bounded_blocks}
use Rattle.au_batches.specs.TextPlaces.{is_text_at}
use Rattle.au_batches.proofs.TextPlaces.{none_added}
use Rattle.au_batches.proofs.block_texts.add_place.Goals as goal

pub returns-else-is_text : goal.returns-else-is_text
returns-else-is_text c =
    let ks = column_kinds (table c.args.columns.now []) in
    let none : is_text_at ks (c.args.place / 3) ≡ false = sym c.is_text.ensures ∙ c.if-is_text.false in
    none_added ks (encode (bounded_blocks (c.args.block.now ∷ []))) c.args.place c.requires.kinds none c.args.texts.now
