-- Keys that stand in columns are those of the rows, and columns that are put side by side are the keys again.
use Rattle.std.specs.Prelude.{◌≡◌, ◌<◌, ◌+◌, ℕ, zero, suc, List, [], ◌∷◌, ◌++◌, ◌≤◌, drop, length, map, get_or, replicate, take, ℤ, pos}
use Rattle.std.specs.List.{AllByRecursion, range_with_len}
use Rattle.std.proofs.Common.{refl, sym, ap, ◌∙◌, arith, add-one, append_assoc, drop-cons}
use Rattle.std.proofs.lemmas.List.{ext_get_or, get_or-map, length-map, drop_all, take_all, take_more}
use Rattle.std.proofs.lemmas.List.FromFn.{get_or-map-range_with_len, length-map-range_with_len}
use Rattle.au_codes.specs.Codes.{Cells, CellRows}
use Rattle.au_codes.specs.CellMeaning.{cell_in, cells_kept}
use Rattle.au_columns.specs.Batches.{beside, row_at, rows_of}
use Rattle.au_columns.specs.Steps.{number_at}
use Rattle.au_columns.proofs.Rows.{row_of, rows_count}
use Rattle.au_folds.specs.Kept.{column_of}
use Rattle.au_folds.specs.Keyed.{singles}
use Rattle.au_folds.specs.Places.{place_of, places_among, seen_after, seen_with}
use Rattle.au_folds.specs.Tables.{keys_of}

key_at : (places : List ℕ) (rows : CellRows) (i : ℕ) → i < length rows → row_at (map (λ p. column_of p rows) places) i ≡ cells_kept places (get_or rows i [])
key_at [] rows i below = refl
key_at (p ∷ places) rows i below = λ j. get_or-map (λ row. cell_in row p) rows i [] (pos 0) below j ∷ key_at places rows i below j

-- the keys of rows, by their columns
pub keys_are : (places : List ℕ) (rows : CellRows) (n : ℕ) → n ≡ length rows → rows_of n (map (λ p. column_of p rows) places) ≡ keys_of places rows
keys_are places rows n is =
    let cs = map (λ p. column_of p rows) places in
    let count = rows_count n cs in
    ext_get_or [] (rows_of n cs) (keys_of places rows) (count ∙ is ∙ sym (length-map rows (cells_kept places)))
    (λ i below.
    let within : i < n = omega (arith, count, below) in
    let there : i < length rows = omega (arith, is, within) in
    row_of n i cs within ∙ key_at places rows i there ∙ sym (get_or-map (cells_kept places) rows i [] [] there))

-- the rows of columns from a place on
pub next_row : (n : ℕ) (cs : List (List ℤ)) (i : ℕ) → i < n → drop i (rows_of n cs) ≡ row_at cs i ∷ drop (i + 1) (rows_of n cs)
next_row n cs i below =
    let rows = rows_of n cs in
    let within : i < length rows = omega (arith, rows_count n cs, below) in
    rw (drop-cons rows i [], add-one) (ap (λ (row : Cells). row ∷ drop (suc i) rows) (row_of n i cs below))

pub no_row : (n : ℕ) (cs : List (List ℤ)) (i : ℕ) → n ≤ i → drop i (rows_of n cs) ≡ []
no_row n cs i past = drop_all i (rows_of n cs) (omega (arith, rows_count n cs, past))

-- the cells of a key, by all places
cell_is : (key : Cells) (i : ℕ) → cell_in key i ≡ number_at key i
cell_is [] zero = refl
cell_is [] (suc i) = refl
cell_is (z ∷ key) zero = refl
cell_is (z ∷ key) (suc i) = cell_is key i

pub whole_keys : (n : ℕ) (keys : CellRows) → AllByRecursion (λ key. length key ≡ n) keys → keys_of (range_with_len 0 n) keys ≡ keys
whole_keys n [] h = refl
whole_keys n (key ∷ keys) h =
    let long = length-map-range_with_len (cell_in key) 0 n in
    let first : cells_kept (range_with_len 0 n) key ≡ key =
    ext_get_or (pos 0) (cells_kept (range_with_len 0 n) key) key (long ∙ sym h.0)
    (λ i below.
    let within : i < n = omega (arith, long, below) in
    let at : 0 + i ≡ i = omega arith in
    get_or-map-range_with_len (cell_in key) 0 n i i (pos 0) within at ∙ cell_is key i) in
    λ j. first j ∷ whole_keys n keys h.1 j

-- places and keys, one key more
module _ (seen more : CellRows) (key : Cells) (left later : CellRows) (is : left ≡ key ∷ later) (grown : more ≡ seen_with seen key) where
  pub place_step : (done pushed all : List ℕ) (place : ℕ) → place ≡ place_of seen key → pushed ≡ done ++ place ∷ [] → done ++ places_among seen left ≡ all → pushed ++ places_among more later ≡ all
  place_step done pushed all place at push h =
      (λ i. push i ++ places_among (grown i) later)
      ∙ append_assoc done (place ∷ []) (places_among (seen_with seen key) later)
      ∙ ap (λ (p : ℕ). done ++ p ∷ places_among (seen_with seen key) later) at
      ∙ sym (ap (λ (keys : CellRows). done ++ places_among seen keys) is)
      ∙ h

  pub seen_step : (all : CellRows) → seen_after seen left ≡ all → seen_after more later ≡ all
  seen_step all h = ap (λ (s : CellRows). seen_after s later) grown ∙ sym (ap (seen_after seen) is) ∙ h

pub places_long : (seen keys : CellRows) → length (places_among seen keys) ≡ length keys
places_long seen [] = refl
places_long seen (key ∷ keys) = ap suc (places_long (seen_with seen key) keys)

-- rows of one number each
pub singles_are : (zs : List ℤ) → beside (replicate (length zs) []) zs ≡ singles zs
singles_are [] = refl
singles_are (z ∷ zs) = ap (λ (rows : CellRows). (z ∷ []) ∷ rows) (singles_are zs)

-- the fronts of keys: none of them, one number more of each, and all
pub no_fronts : (keys : CellRows) → replicate (length keys) [] ≡ map (take 0) keys
no_fronts [] = refl
no_fronts (key ∷ keys) = ap (λ (rows : CellRows). [] ∷ rows) (no_fronts keys)

pub next_fronts : (n p : ℕ) (keys : CellRows) → p < n → AllByRecursion (λ key. length key ≡ n) keys → beside (map (take p) keys) (map (λ key. number_at key p) keys) ≡ map (take (p + 1)) keys
next_fronts n p [] below h = refl
next_fronts n p (key ∷ keys) below h =
    let within : p < length key = omega (arith, h.0, below) in
    λ j. sym (take_more key p (pos 0) within) j ∷ next_fronts n p keys below h.1 j

pub all_fronts : (n p : ℕ) (keys : CellRows) → n ≤ p → AllByRecursion (λ key. length key ≡ n) keys → map (take p) keys ≡ keys
all_fronts n p [] past h = refl
all_fronts n p (key ∷ keys) past h = λ j. take_all p key (omega (arith, h.0, past)) j ∷ all_fronts n p keys past h.1 j

-- keys of one column
pub single_keys : (p : ℕ) (rows : CellRows) → singles (column_of p rows) ≡ keys_of (p ∷ []) rows
single_keys p [] = refl
single_keys p (row ∷ rows) = ap (λ (keys : CellRows). (cell_in row p ∷ []) ∷ keys) (single_keys p rows)

-- numbers beside rows
pub beside_long : (rows : CellRows) (zs : List ℤ) → length zs ≡ length rows → length (beside rows zs) ≡ length rows
beside_long [] zs long = refl
beside_long (row ∷ rows) [] long = let never : ⊥ = omega (arith, long) in absurd never
beside_long (row ∷ rows) (z ∷ zs) long = ap suc (beside_long rows zs (omega (arith, long)))
