-- The block table of a text, or the first of its defects.
use Rattle.std.specs.Prelude.{ℕ, List, [], ◌∷◌, map, Option, Some, None, Result, Ok, Err, unwrap_or, position, zip}
use Rattle.std.specs.List.{list_any}
use Rattle.au_value.specs.declared.kinds.Kind.{Kind}
use Rattle.au_value.specs.declared.value.Value.TheVariants as value
use Rattle.au_value.specs.Ranges.{Span, certain}
use Rattle.au_csv.specs.Texts.{Record, records_of}
use Rattle.au_blocks.specs.declared.column.Column.{Column}
use Rattle.au_blocks.specs.declared.faults.TableFault.{TableFault}
use Rattle.au_blocks.specs.Blocks.{Candidate, candidate, Choices, choices}
use Rattle.au_blocks.specs.Tables.{BlockTable, table}
use Rattle.au_blocks.specs.Headers.{format_of, cells_of, column_names, written_kinds}
use Rattle.au_blocks.specs.Entries.{BlockEntry, is_marked, is_absent, entries_of, alternatives, entry_blocks}
use Rattle.au_blocks.specs.Inferring.{inferred_kinds}
use Rattle.au_blocks.specs.Defects.{defects}
use Rattle.au_blocks.specs.Spellings.{field_written}

-- the range of a cell: of the value that it writes, or else the range; where it writes neither, a defect stands
abbrev pub cell : Kind × List ℕ → Span
cell c = unwrap_or (field_written c.0 c.1) (certain (value.Text c.1))

abbrev pub row : List Kind → Record → List Span
row kinds cells = map cell (zip kinds cells)

-- the alternative of an entry
abbrev pub candidate_of : List Kind → BlockEntry → Candidate
candidate_of kinds e = candidate (row kinds e.cells) e.copies

-- a block: its alternatives in order, whether it may be absent, and which alternative is marked
abbrev pub block_of : List Kind → List BlockEntry → Choices
block_of kinds entries =
    choices (map (candidate_of kinds) (alternatives entries)) (list_any (λ e. is_absent e.role) entries) (position (λ e. is_marked e.role) (alternatives entries))

abbrev pub columns_of : List (List ℕ) → List Kind → List Column
columns_of names kinds = map (λ c. record { name = c.0; kind = c.1 }) (zip names kinds)

-- the columns of a header, over the rows below it
abbrev pub header_kinds : Record → List Record → List Kind
header_kinds header rows = inferred_kinds (entries_of (format_of header) rows) (written_kinds (cells_of (format_of header) header))

abbrev pub header_columns : Record → List Record → List Column
header_columns header rows = columns_of (column_names (format_of header) (cells_of (format_of header) header)) (header_kinds header rows)

-- the table of records that have no defect
abbrev pub contents : List Record → BlockTable
contents [] = table [] []
contents (header ∷ rows) = table (header_columns header rows) (map (block_of (header_kinds header rows)) (entry_blocks (format_of header) rows))

-- the first of some defects
abbrev pub first : List TableFault → Option TableFault
first [] = None
first (x ∷ xs) = Some x

-- a table, unless a defect stands
abbrev pub unless : {T : Type 0} → Option TableFault → T → Result T TableFault
unless None t = Ok t
unless (Some defect) t = Err defect

-- the block table of a text, or its first defect
abbrev pub table_of : List ℕ → Result BlockTable TableFault
table_of bytes = let rs = records_of bytes in unless (first (defects rs)) (contents rs)
