-- What stands at a place of the columns of a table, of its alternatives, and of its blocks.
use Rattle.std.proofs.Common.{◌≡◌, ◌∙◌, ℕ, suc, ◌+◌, ◌-◌, ◌<◌, ◌≤◌, List, [], ◌∷◌, length, map, get_or, take, drop, Some, ap, arith}
use Rattle.std.specs.Prelude.{option_map, slice_get}
use Rattle.std.proofs.lemmas.List.{drop_more, get_or-drop, get_or-take, length-drop, length-map, length-take-le}
use Rattle.std.proofs.lemmas.List.Elements.{All-get_or}
use Rattle.std.proofs.lemmas.List.FromFn.{get_or-map-range_with_len, length-map-range_with_len}
use Rattle.std.proofs.lemmas.Option.{get_or_from_slice_get, slice_get-get_or, slice_get-map}
use Rattle.au_value.specs.Ranges.{Span}
use Rattle.au_blocks.specs.Blocks.{Candidate, Copies, candidate, once}
use Rattle.au_blocks.specs.Laid.{AreLong, alternative_at, row_at, rows_of}
use Rattle.au_blocks.specs.Spans.{cell_at}

module _ (n : ℕ) (columns : List (List Span)) (copies : List Copies) where
  pub rows-length : length (rows_of n columns copies) ≡ n
  rows-length = length-map-range_with_len (row_at columns copies) 0 n

  pub row-here : (i : ℕ) → i < length (rows_of n columns copies) → alternative_at (rows_of n columns copies) i ≡ row_at columns copies i
  row-here i within =
      let low : i < n = omega (arith, rows-length, within) in
      get_or-map-range_with_len (row_at columns copies) 0 n i i (candidate [] once) low (omega arith)

  -- as many cells as columns, and the copies
  pub row-width : (i : ℕ) → i < length (rows_of n columns copies) → length (alternative_at (rows_of n columns copies) i).cells ≡ length columns
  row-width i within = ap (λ (a : Candidate). length a.cells) (row-here i within) ∙ length-map columns (cell_at i)

  pub row-copies : (i : ℕ) → i < length (rows_of n columns copies) → (alternative_at (rows_of n columns copies) i).copies ≡ get_or copies i once
  row-copies i within = ap (λ (a : Candidate). a.copies) (row-here i within)

  -- what a cell has
  pub row-cell : {X : Type 0} (g : Span → X) (i j : ℕ) (column : List Span) → i < length (rows_of n columns copies) → slice_get columns j ≡ Some column
      → slice_get (map g (alternative_at (rows_of n columns copies) i).cells) j ≡ Some (g (cell_at i column))
  row-cell g i j column within is =
      ap (λ (a : Candidate). slice_get (map g a.cells) j) (row-here i within) ∙ slice_get-map g (map (cell_at i) columns) j
      ∙ ap (option_map g) (slice_get-map (cell_at i) columns j ∙ ap (option_map (cell_at i)) is)

  pub column-length : (i j : ℕ) (column : List Span) → AreLong n columns → i < length (rows_of n columns copies) → j < length columns → slice_get columns j ≡ Some column → i < length column
  column-length i j column long within low is =
      let at : length (get_or columns j column) ≡ n = All-get_or (λ (c : List Span). length c ≡ n) columns j column low long in
      let found : get_or columns j column ≡ column = get_or_from_slice_get columns j column column is in
      omega (arith, rows-length, within, at, ap length found)

-- alternatives from one on
module _ (rows : List Candidate) (first count : ℕ) (within : first + count ≤ length rows) where
  pub part-length : length (take count (drop first rows)) ≡ count
  part-length = length-take-le count (drop first rows) (omega (arith, length-drop first rows, within))

  pub part-at : (i : ℕ) → i < count → slice_get (take count (drop first rows)) i ≡ Some (alternative_at rows (first + i))
  part-at i low =
      slice_get-get_or (take count (drop first rows)) i (candidate [] once) (omega (arith, part-length, low))
      ∙ ap Some (get_or-take count (drop first rows) i (candidate [] once) low ∙ get_or-drop first rows i (candidate [] once))

  pub part-split : 0 < count → take count (drop first rows) ≡ alternative_at rows first ∷ take (count - 1) (drop (first + 1) rows)
  part-split some =
      let e : count ≡ suc (count - 1) = omega (arith, some) in
      ap (λ n. take n (drop first rows)) e ∙ ap (take (suc (count - 1))) (drop_more rows first (candidate [] once) (omega (arith, some, within)))
