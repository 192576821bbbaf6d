-- The rows of blocks that are put together are those of each part, put together, and so are their encoded rows, and what is kept of these.
use Rattle.std.specs.Prelude.{◌≡◌, ℕ, List, ◌++◌, map, not}
use Rattle.std.proofs.Common.{◌∙◌, ap}
use Rattle.std.proofs.lemmas.List.{map-append}
use Rattle.std.proofs.lemmas.List.Elements.{filter-append}
use Rattle.au_annot.specs.Triples.{is_none}
use Rattle.au_algebra.specs.Bounded.{RangeRow, present}
use Rattle.au_blocks.specs.Blocks.{Choices}
use Rattle.au_plain.specs.Meaning.{kept}
use Rattle.au_encode.specs.Encode.{encode, encode_row}
use Rattle.au_translate.specs.Translate.{block_row, bounded_blocks}

pub bounded_apart : (xs ys : List Choices) → bounded_blocks (xs ++ ys) ≡ bounded_blocks xs ++ bounded_blocks ys
bounded_apart xs ys = ap present (map-append block_row xs ys) ∙ filter-append (λ (r : RangeRow). not (is_none r.annot)) (map block_row xs) (map block_row ys)

pub encoded_apart : (xs ys : List Choices) → encode (bounded_blocks (xs ++ ys)) ≡ encode (bounded_blocks xs) ++ encode (bounded_blocks ys)
encoded_apart xs ys = ap encode (bounded_apart xs ys) ∙ map-append encode_row (bounded_blocks xs) (bounded_blocks ys)

pub kept_apart : (places : List ℕ) (xs ys : List Choices)
    → map (kept places) (encode (bounded_blocks (xs ++ ys))) ≡ map (kept places) (encode (bounded_blocks xs)) ++ map (kept places) (encode (bounded_blocks ys))
kept_apart places xs ys =
    ap (map (kept places)) (encoded_apart xs ys) ∙ map-append (kept places) (encode (bounded_blocks xs)) (encode (bounded_blocks ys))
