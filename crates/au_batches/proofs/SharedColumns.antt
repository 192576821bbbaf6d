-- A column that a batch has, once more.
use Rattle.std.specs.Prelude.{◌≡◌, ◌<◌, ◌+◌, ◌-◌, ℕ, zero, suc, List, [], ◌∷◌, ◌++◌, length, map, take, get_or}
use Rattle.std.proofs.Common.{arith, refl, sym, ap, ◌∙◌}
use Rattle.std.proofs.lemmas.List.{get_or-take, length-take-le}
use Rattle.au_value.specs.declared.value.Value.{Value}
use Rattle.au_algebra.specs.Lists.{value_at}
use Rattle.au_algebra.specs.Ordinary.{Rows}
use Rattle.au_plain.specs.Meaning.{kept}
use Rattle.au_plain.specs.PTerms as term
use Rattle.au_codes.specs.CellMeaning.{cell_in, cells_extended}
use Rattle.au_codes.specs.Codes.{Cells, CellRows, Code, code, coded_row, coded_rows}
use Rattle.au_columns.specs.Batches.{beside}
use Rattle.au_blocks.specs.Blocks.{Choices}
use Rattle.au_encode.specs.Encode.{encode}
use Rattle.au_translate.specs.Translate.{bounded_blocks}
use Rattle.au_batches.specs.BlockRows.{block_rows, in_place}
use Rattle.au_batches.proofs.PlaceColumns.{next_column}

-- is shared
pub beside_copy : (rows : CellRows) (k : ℕ) → map (cells_extended (term.Column k)) rows ≡ beside rows (map (λ row. cell_in row k) rows)
beside_copy [] k = refl
beside_copy (row ∷ rows) k = ap (λ (l : CellRows). (row ++ cell_in row k ∷ []) ∷ l) (beside_copy rows k)

pub shared_column : (rows made : CellRows) (k : ℕ) (column : Cells) → column ≡ map (λ row. cell_in row k) rows → made ≡ map (cells_extended (term.Column k)) rows → made ≡ beside rows column
shared_column rows made k column is e = e ∙ (beside_copy rows k ∙ ap (beside rows) (sym is))

-- the cell of a kept place
kept_cell : (c : Code) (row : List Value) (ps : List ℕ) (k : ℕ) → k < length ps → cell_in (coded_row c (kept ps row)) k ≡ code c (value_at row (get_or ps k 0))
kept_cell c row [] k low = let never : ⊥ = omega (arith, low) in absurd never
kept_cell c row (p ∷ ps) zero low = refl
kept_cell c row (p ∷ ps) (suc k) low = kept_cell c row ps k (omega (arith, low))

kept_cells : (c : Code) (ps : List ℕ) (k : ℕ) → k < length ps → (rows : Rows) → map (λ row. cell_in row k) (coded_rows c (map (kept ps) rows)) ≡ map (code c) (map (λ row. value_at row (get_or ps k 0)) rows)
kept_cells c ps k low [] = refl
kept_cells c ps k low (row ∷ rows) = λ i. kept_cell c row ps k low i ∷ kept_cells c ps k low rows i

-- the column of the place before, of those so far
pub column_before : (c : Code) (places : List ℕ) (n k p : ℕ) (rows : Rows) (batch : CellRows) → k < n → n < length places → p ≡ get_or places k 0 → batch ≡ coded_rows c (map (kept (take n places)) rows)
    → map (λ row. cell_in row k) batch ≡ map (code c) (map (λ row. value_at row p) rows)
column_before c places n k p rows batch low within is h =
    let long : length (take n places) ≡ n = length-take-le n places (omega (arith, within)) in
    ap (map (λ row. cell_in row k)) h ∙ (kept_cells c (take n places) k (omega (arith, low, long)) rows
    ∙ ap (λ q. map (code c) (map (λ row. value_at row q) rows)) (get_or-take n places k 0 low ∙ sym is))

-- one place more, which has the values of the one before
pub place_again : (c : Code) (places : List ℕ) (n p q : ℕ) (bs : List Choices) (batch made : CellRows) → 0 < n → n < length places → p ≡ get_or places n 0 → q ≡ get_or places (n - 1) 0 → in_place q bs ≡ in_place p bs
    → batch ≡ coded_rows c (block_rows (take n places) bs) → made ≡ map (cells_extended (term.Column (n - 1))) batch → made ≡ coded_rows c (block_rows (take (n + 1) places) bs)
place_again c places n p q bs batch made some within here before same h e =
    let rows = encode (bounded_blocks bs) in
    let zs = map (code c) (in_place p bs) in
    let low : n - 1 < n = omega (arith, some) in
    let is : zs ≡ map (λ row. cell_in row (n - 1)) batch = ap (map (code c)) (sym same) ∙ sym (column_before c places n (n - 1) q rows batch low within before h) in
    next_column c places n p rows batch made zs within here refl (shared_column batch made (n - 1) zs is e) h

-- one place more
pub place_more : (c : Code) (places : List ℕ) (n p : ℕ) (bs : List Choices) (batch made : CellRows) (zs : Cells) → n < length places → p ≡ get_or places n 0 → zs ≡ map (code c) (in_place p bs)
    → batch ≡ coded_rows c (block_rows (take n places) bs) → made ≡ beside batch zs → made ≡ coded_rows c (block_rows (take (n + 1) places) bs)
place_more c places n p bs batch made zs within here is h e = next_column c places n p (encode (bounded_blocks bs)) batch made zs within here is e h
