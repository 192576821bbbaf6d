-- The table of a text whose records were taken in, in one pass.
use Rattle.std.proofs.Common.{◌≡◌, ◌∙◌, ℕ, ◌-◌, ◌||◌, true, List, ◌∷◌, length, map, Option, None, Ok, sym, ap}
use Rattle.std.specs.Prelude.{is_some, nat_lt}
use Rattle.std.specs.List.{enumerate_from, list_all}
use Rattle.std.proofs.lemmas.List.{length-map, length-drop}
use Rattle.std.proofs.lemmas.List.FromFn.{length-enumerate_from}
use Rattle.au_value.specs.declared.kinds.Kind.{Kind}
use Rattle.au_csv.specs.Texts.{Record}
use Rattle.au_blocks.specs.declared.column.Column.{Column}
use Rattle.au_blocks.specs.declared.extent.Extent.{Extent}
use Rattle.au_blocks.specs.declared.format.Format.{Format}
use Rattle.au_blocks.specs.declared.intake.Intake.{Intake}
use Rattle.au_blocks.specs.Blocks.{Candidate}
use Rattle.au_blocks.specs.Columns.{alternatives_of}
use Rattle.au_blocks.specs.Defects.{header_defects, rows_defects, schema_defects}
use Rattle.au_blocks.specs.Entries.{BlockEntry, entries_of}
use Rattle.au_blocks.specs.Headers.{cells_of, column_names, format_of, lead, written_kind, written_kinds}
use Rattle.au_blocks.specs.Held.{held}
use Rattle.au_blocks.specs.Inferring.{column_kind, inferred_kinds, is_alternative}
use Rattle.au_blocks.specs.Intakes.{ReadsAll, TakesIn}
use Rattle.au_blocks.specs.Laid.{IsLaid}
use Rattle.au_blocks.specs.OnePass.{AreSupposed}
use Rattle.au_blocks.specs.Order.{chosen}
use Rattle.au_blocks.specs.Read.{columns_of, first, header_columns, table_of}
use Rattle.au_blocks.specs.Tables.{table}
use Rattle.au_blocks.proofs.First.{first-behind}
use Rattle.au_blocks.proofs.OnePassRecords.{fitting-kinds}
use Rattle.au_blocks.proofs.ReadTables.{table-read}
use Rattle.au_blocks.proofs.TableParts.{parts_fit, parts_are}
use Rattle.au_blocks.proofs.TakenRecords.{kinds-known}
use Rattle.au_blocks.proofs.WellFormed.{header-kinds}

-- there are as many kinds as the header has fields of columns
pub kinds-long : (header : Record) (written : List (Option Kind)) (kinds : List Kind) (entries : List BlockEntry) → written ≡ written_kinds (cells_of (format_of header) header)
    → inferred_kinds entries written ≡ kinds → length kinds ≡ length header - lead (format_of header)
kinds-long header written kinds entries is found =
    ap length (sym found) ∙ length-map (enumerate_from 0 written) (column_kind entries) ∙ length-enumerate_from 0 written ∙ ap length is
    ∙ length-map (cells_of (format_of header) header) written_kind ∙ length-drop (lead (format_of header)) header

-- the supposed kinds are found, where there is an alternative or each kind is written
pub supposed-found : (f : Format) (width : ℕ) (written : List (Option Kind)) (kinds : List Kind) (rows : List Record) (intake : Intake) → AreSupposed f rows 0 written kinds
    → TakesIn f width kinds rows intake → (nat_lt 0 intake.count || list_all is_some written) ≡ true → inferred_kinds (entries_of f rows) written ≡ kinds
supposed-found f width written kinds rows intake supposed taken known =
    fitting-kinds f width written kinds rows supposed taken.fitting (kinds-known (is_alternative f) rows intake.count (list_all is_some written) taken.count known)

module _ (bytes : List ℕ) (header : Record) (written : List (Option Kind)) (kinds : List Kind) (columns : List Column) (alternatives : List Candidate) (extents : List Extent)
    (all : ReadsAll bytes header written kinds alternatives extents) (sound : first (header_defects (format_of header) (cells_of (format_of header) header)) ≡ None)
    (is : written ≡ written_kinds (cells_of (format_of header) header))
    (are : columns ≡ columns_of (column_names (format_of header) (cells_of (format_of header) header)) kinds) where
  whole : first (schema_defects header all.rows) ≡ None
  whole =
      first-behind (header_defects (format_of header) (cells_of (format_of header) header)) (rows_defects (format_of header) (length header) (written_kinds (cells_of (format_of header) header)) all.rows) sound
      ∙ ap (λ ws. first (rows_defects (format_of header) (length header) ws all.rows)) (sym is) ∙ all.sound

  kinds_are : inferred_kinds (entries_of (format_of header) all.rows) (written_kinds (cells_of (format_of header) header)) ≡ kinds
  kinds_are = ap (inferred_kinds (entries_of (format_of header) all.rows)) (sym is) ∙ all.found

  columns_are : columns ≡ header_columns header all.rows
  columns_are = are ∙ ap (columns_of (column_names (format_of header) (cells_of (format_of header) header))) (sym kinds_are)

  held_kinds : map (λ (c : Column). c.kind) columns ≡ kinds
  held_kinds = ap (map (λ (c : Column). c.kind)) columns_are ∙ header-kinds header all.rows ∙ kinds_are

  made : alternatives ≡ alternatives_of (format_of header) (map (λ (c : Column). c.kind) columns) (chosen (format_of header) all.rows)
  made = all.lies.made ∙ ap (λ ks. alternatives_of (format_of header) ks (chosen (format_of header) all.rows)) (sym held_kinds)

  pub pass_fits : IsLaid columns alternatives extents
  pass_fits = parts_fit header all.rows columns alternatives extents whole columns_are all.lies.sound made all.lies.placed

  pub pass_reads : table_of bytes ≡ Ok (table columns (held alternatives extents))
  pass_reads =
      table-read bytes (header ∷ all.rows) (Ok (table columns (held alternatives extents))) all.read
      (parts_are header all.rows columns alternatives extents whole columns_are all.lies.sound made all.lies.placed)
