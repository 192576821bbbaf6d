-- The alternatives of a table, held by columns.
use Rattle.std.specs.Prelude.{◌≡◌, ℕ, List, [], length, map, get_or}
use Rattle.std.specs.List.{All, range_with_len}
use Rattle.au_value.specs.Ranges.{Span}
use Rattle.au_blocks.specs.declared.column.Column.{Column}
use Rattle.au_blocks.specs.declared.extent.Extent.{Extent}
use Rattle.au_blocks.specs.Blocks.{Candidate, Copies, candidate, once}
use Rattle.au_blocks.specs.Spans.{cell_at}
use Rattle.au_blocks.specs.Held.{IsWithin, held}
use Rattle.au_blocks.specs.Tables.{IsBlockTable, table}

-- the alternative with the cells at a place of the columns; past the last numbers of copies each stands once
abbrev pub row_at : List (List Span) → List Copies → ℕ → Candidate
row_at columns copies i = candidate (map (cell_at i) columns) (get_or copies i once)

-- the alternatives of columns, of which there are n
abbrev pub rows_of : ℕ → List (List Span) → List Copies → List Candidate
rows_of n columns copies = map (row_at columns copies) (range_with_len 0 n)

-- each column has n cells
abbrev pub AreLong : ℕ → List (List Span) → Type 0
AreLong n columns = All (λ column. length column ≡ n) columns

-- the alternative at a place
abbrev pub alternative_at : List Candidate → ℕ → Candidate
alternative_at rows i = get_or rows i (candidate [] once)

-- the table is a block table, and the places of its blocks are among these alternatives
pub record IsLaid (columns : List Column) (rows : List Candidate) (extents : List Extent) : Type 0 where
  pub table : IsBlockTable (table columns (held rows extents))
  pub within : All (IsWithin rows) extents
