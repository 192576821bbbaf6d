-- The table of columns, alternatives and places of blocks, in which no defect was found.
use Rattle.std.proofs.Common.{◌≡◌, ◌∙◌, List, ◌∷◌, None, Ok, All, map, refl, ap}
use Rattle.au_csv.specs.Texts.{Record}
use Rattle.au_blocks.specs.declared.column.Column.{Column}
use Rattle.au_blocks.specs.declared.extent.Extent.{Extent}
use Rattle.au_blocks.specs.Blocks.{Candidate}
use Rattle.au_blocks.specs.Columns.{alternatives_of}
use Rattle.au_blocks.specs.Tables.{IsBlockTable, table}
use Rattle.au_blocks.specs.Defects.{schema_defects, blocks_defects, table_defects}
use Rattle.au_blocks.specs.Entries.{entry_blocks}
use Rattle.au_blocks.specs.Headers.{format_of}
use Rattle.au_blocks.specs.Held.{IsWithin, held}
use Rattle.au_blocks.specs.Laid.{IsLaid}
use Rattle.au_blocks.specs.Order.{chosen}
use Rattle.au_blocks.specs.Read.{block_of, contents, first, header_columns, header_kinds, unless}
use Rattle.au_blocks.specs.Tallies.{extents_from, tally_of}
use Rattle.au_blocks.proofs.First.{first-behind}
use Rattle.au_blocks.proofs.Laying.{all-within, laid}
use Rattle.au_blocks.proofs.WellFormed.{header-kinds, well-formed}

module _ (header : Record) (rows : List Record) (columns : List Column) (alternatives : List Candidate) (extents : List Extent)
    (sound : first (schema_defects header rows) ≡ None) (are : columns ≡ header_columns header rows) (none : first (blocks_defects (entry_blocks (format_of header) rows)) ≡ None)
    (made : alternatives ≡ alternatives_of (format_of header) (map (λ c. c.kind) columns) (chosen (format_of header) rows))
    (placed : extents ≡ extents_from 0 (map tally_of (entry_blocks (format_of header) rows))) where
  kinds_are : map (λ (c : Column). c.kind) columns ≡ header_kinds header rows
  kinds_are = ap (map (λ (c : Column). c.kind)) are ∙ header-kinds header rows

  rows_are : alternatives ≡ alternatives_of (format_of header) (header_kinds header rows) (chosen (format_of header) rows)
  rows_are = made ∙ ap (λ kinds. alternatives_of (format_of header) kinds (chosen (format_of header) rows)) kinds_are

  blocks_are : held alternatives extents ≡ map (block_of (header_kinds header rows)) (entry_blocks (format_of header) rows)
  blocks_are = (λ i. held (rows_are i) (placed i)) ∙ laid (format_of header) (header_kinds header rows) rows

  good : IsBlockTable (table (header_columns header rows) (map (block_of (header_kinds header rows)) (entry_blocks (format_of header) rows)))
  good = well-formed header rows sound none

  within : All (IsWithin alternatives) extents
  within = rw (rows_are, placed) (all-within (format_of header) (header_kinds header rows) rows good.blocks)

  pub parts_fit : IsLaid columns alternatives extents
  parts_fit = record { table = rw (are, blocks_are) good; within = within }

  pub parts_are : unless (first (table_defects (header ∷ rows))) (contents (header ∷ rows)) ≡ Ok (table columns (held alternatives extents))
  parts_are = rw (first-behind (schema_defects header rows) (blocks_defects (entry_blocks (format_of header) rows)) sound, none, are, blocks_are) refl
