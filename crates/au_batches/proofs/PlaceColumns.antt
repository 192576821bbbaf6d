-- The codes of rows, a column for each place.
use Rattle.std.specs.Prelude.{◌≡◌, ◌<◌, ◌+◌, ℕ, List, [], ◌∷◌, ◌++◌, length, map, replicate, take, get_or}
use Rattle.std.proofs.Common.{refl, sym, ap, ◌∙◌}
use Rattle.std.proofs.lemmas.List.{length-map, map-append, map_push, take_more}
use Rattle.au_value.specs.declared.value.Value.{Value}
use Rattle.au_algebra.specs.Lists.{value_at}
use Rattle.au_algebra.specs.Ordinary.{Rows}
use Rattle.au_blocks.specs.Blocks.{Choices}
use Rattle.au_plain.specs.Meaning.{kept}
use Rattle.au_encode.specs.Encode.{encode}
use Rattle.au_translate.specs.EncodingPieces.{encoded_apart}
use Rattle.au_translate.specs.Translate.{bounded_blocks}
use Rattle.au_codes.specs.Codes.{Cells, CellRows, Code, code, coded_row, coded_rows}
use Rattle.au_columns.specs.Batches.{beside}
use Rattle.au_batches.specs.BlockRows.{in_place}

-- of blocks in two parts
pub place_apart : (c : Code) (p : ℕ) (xs ys : List Choices) → map (code c) (in_place p (xs ++ ys)) ≡ map (code c) (in_place p xs) ++ map (code c) (in_place p ys)
place_apart c p xs ys =
    ap (λ (rows : Rows). map (code c) (map (λ row. value_at row p) rows)) (encoded_apart xs ys)
    ∙ (ap (map (code c)) (map-append (λ row. value_at row p) (encode (bounded_blocks xs)) (encode (bounded_blocks ys)))
    ∙ map-append (code c) (in_place p xs) (in_place p ys))

-- rows of which no place is kept
pub no_places : (c : Code) (rows : Rows) → replicate (length rows) [] ≡ coded_rows c (map (kept []) rows)
no_places c [] = refl
no_places c (row ∷ rows) = ap (λ (l : CellRows). [] ∷ l) (no_places c rows)

row_more : (c : Code) (ps : List ℕ) (p : ℕ) (row : List Value) → coded_row c (kept ps row) ++ code c (value_at row p) ∷ [] ≡ coded_row c (kept (ps ++ p ∷ []) row)
row_more c ps p row =
    sym (ap (map (code c)) (map_push (value_at row) ps p) ∙ map_push (code c) (kept ps row) (value_at row p))

rows_more : (c : Code) (ps : List ℕ) (p : ℕ) (rows : Rows) → beside (coded_rows c (map (kept ps) rows)) (map (code c) (map (λ row. value_at row p) rows)) ≡ coded_rows c (map (kept (ps ++ p ∷ [])) rows)
rows_more c ps p [] = refl
rows_more c ps p (row ∷ rows) = λ i. row_more c ps p row i ∷ rows_more c ps p rows i

-- one place more
pub next_column :
    (c : Code) (places : List ℕ) (i p : ℕ) (rows : Rows) (batch made : CellRows) (zs : Cells) →
    i < length places → p ≡ get_or places i 0 → zs ≡ map (code c) (map (λ row. value_at row p) rows) → made ≡ beside batch zs →
    batch ≡ coded_rows c (map (kept (take i places)) rows) → made ≡ coded_rows c (map (kept (take (i + 1) places)) rows)
next_column c places i p rows batch made zs within here is put h =
    put ∙ ((λ j. beside (h j) (is j))
    ∙ (rows_more c (take i places) p rows
    ∙ ap (λ (ps : List ℕ). coded_rows c (map (kept ps) rows)) (ap (λ (q : ℕ). take i places ++ q ∷ []) here ∙ sym (take_more places i 0 within))))

-- as many numbers as rows
pub long_enough : (c : Code) (ps : List ℕ) (p : ℕ) (rows : Rows) → length (map (code c) (map (λ row. value_at row p) rows)) ≡ length (coded_rows c (map (kept ps) rows))
long_enough c ps p rows =
    (length-map (map (λ (row : List Value). value_at row p) rows) (code c) ∙ length-map rows (λ (row : List Value). value_at row p))
    ∙ sym (length-map (map (kept ps) rows) (coded_row c) ∙ length-map rows (kept ps))
