-- The rows of blocks of which some places are kept, and the values in one place of them.
use Rattle.std.specs.Prelude.{ℕ, List, map}
use Rattle.au_value.specs.declared.value.Value.{Value}
use Rattle.au_algebra.specs.Lists.{value_at}
use Rattle.au_algebra.specs.Ordinary.{Rows}
use Rattle.au_blocks.specs.Blocks.{Choices}
use Rattle.au_plain.specs.Meaning.{kept}
use Rattle.au_encode.specs.Encode.{encode}
use Rattle.au_translate.specs.Translate.{bounded_blocks}

-- of each encoded row the values in these places
abbrev pub block_rows : List ℕ → List Choices → Rows
block_rows places blocks = map (kept places) (encode (bounded_blocks blocks))

-- of each encoded row the value in one place
abbrev pub in_place : ℕ → List Choices → List Value
in_place place blocks = map (λ row. value_at row place) (encode (bounded_blocks blocks))
