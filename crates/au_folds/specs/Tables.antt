-- The table of a grouping: the keys that were seen, and what is kept of each aggregate. How more rows change it, and the
-- rows that it gives.
use Rattle.std.specs.Prelude.{◌≡◌, ℕ, true, List, [], ◌∷◌, ℤ, flat_map, length, map}
use Rattle.std.specs.List.{AllByRecursion}
use Rattle.au_expr.specs.Figures.{fit}
use Rattle.au_plain.specs.declared.plan.PAgg.{PAgg}
use Rattle.au_codes.specs.Codes.{CellRows}
use Rattle.au_codes.specs.CellMeaning.{cells_kept}
use Rattle.au_columns.specs.Batches.{beside}
use Rattle.au_folds.specs.Kept.{Kept, kept_numbers, kept_values, kept_with, nothing_kept}
use Rattle.au_folds.specs.Places.{places_among, seen_after}

-- the key columns, the keys in the order in which they are first seen, and what is kept
pub record Table : Type 0 where
  pub keys : List ℕ
  pub seen : CellRows
  pub kept : List Kept

abbrev pub table_with : List ℕ → CellRows → List Kept → Table
table_with keys seen kept = record { keys = keys; seen = seen; kept = kept }

-- of no rows
abbrev pub empty_table : List ℕ → List PAgg → Table
empty_table keys aggs = table_with keys [] (map nothing_kept aggs)

-- the keys of rows
abbrev pub keys_of : List ℕ → CellRows → CellRows
keys_of keys rows = map (cells_kept keys) rows

-- more rows
abbrev pub grown : Table → CellRows → Table
grown t rows =
    table_with t.keys (seen_after t.seen (keys_of t.keys rows)) (map (kept_with (places_among t.seen (keys_of t.keys rows)) rows) t.kept)

-- the magnitudes of all sums
abbrev pub table_numbers : Table → List ℤ
table_numbers t = flat_map kept_numbers t.kept

-- rows with several columns more on the right
abbrev pub beside_all : CellRows → List (List ℤ) → CellRows
beside_all rows [] = rows
beside_all rows (column ∷ columns) = beside_all (beside rows column) columns

-- the rows of the groups: the keys, and then the aggregates
abbrev pub finished : Table → CellRows
finished t = beside_all t.seen (map kept_values t.kept)

-- each key has all key columns, each aggregate has something for each group, and no magnitude leaves 128 bits
pub record IsTable (t : Table) : Type 0 where
  pub wide : AllByRecursion (λ key. length key ≡ length t.keys) t.seen
  pub whole : AllByRecursion (λ k. length (kept_values k) ≡ length t.seen) t.kept
  pub fits : fit (table_numbers t) ≡ true
