-- The values of the block's only row.
use Rattle.std.proofs.Common.{◌∙◌, ◌∷◌, [], ap}
use Rattle.std.specs.Prelude.{Some}
use Rattle.au_blocks.specs.Scalars.{scalar_value}
use Rattle.au_encode.specs.Encode.{encode}
use Rattle.au_translate.specs.Translate.{bounded_blocks}
use Rattle.au_exec.proofs.FirstRows.{some_row}
use Rattle.au_exec.proofs.block_kinds.kinds_of_block.Goals as goal

pub returns-in_ok-kinds_in-in-Some : goal.returns-in_ok-kinds_in-in-Some
returns-in_ok-kinds_in-in-Some c =
    ap Some c.in_ok-kinds_in-in-Some.ensures ∙ some_row (encode (bounded_blocks (c.args.block.now ∷ []))) c.args.places.now (scalar_value c.in-Some.field-0) c.in-Some.ensures
