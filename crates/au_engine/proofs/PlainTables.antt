-- The text of rows is the text of a plain table, whose guess rows are the rows.
use Rattle.std.proofs.Common.{◌≡◌, ℕ, ◌+◌, ◌<◌, true, List, [], ◌∷◌, length, map, None, Ok, refl, ap, sym, ◌∙◌, subst, arith}
use Rattle.std.specs.List.{AllByRecursion, enumerate_from, flat_map, list_all}
use Rattle.std.proofs.lemmas.List.{length-map}
use Rattle.au_value.specs.declared.kinds.Kind.{Kind}
use Rattle.au_value.specs.declared.kinds.Kind.TheVariants as kind
use Rattle.au_value.specs.Order.{data_kind, kind_of}
use Rattle.au_value.specs.Ranges.{guesses}
use Rattle.au_csv.specs.Texts.{Record, is_text, not_text, records_of}
use Rattle.au_csv.proofs.NotText.{position-none}
use Rattle.au_blocks.specs.Blocks.{Choices}
use Rattle.au_blocks.specs.Headers.{format_of, written_kinds}
use Rattle.au_blocks.specs.Entries.{BlockEntry, entry_blocks, entries_of}
use Rattle.au_blocks.specs.Inferring.{column_kind, inferred_kinds}
use Rattle.au_blocks.specs.Defects.{block_defects, defects, header_defects, record_defects, rows_defects}
use Rattle.au_blocks.specs.Read as reading
use Rattle.au_blocks.specs.Read.{block_of, columns_of, contents, first, header_kinds, table_of, unless}
use Rattle.au_blocks.specs.Tables.{BlockTable, column_kinds}
use Rattle.au_blocks.specs.Worlds.{guess_choice, rows_in}
use Rattle.au_algebra.specs.Ordinary.{Rows}
use Rattle.au_plain.specs.PlanKinds.{FitRows, HaveKinds}
use Rattle.au_sqltext.specs.Records.{cell_field, header_from, rows_text}
use Rattle.au_engine.specs.EncodedTables.{AreWritable, IsTableOf, TextRows}
use Rattle.au_engine.proofs.RecordTexts.{fields_of_rows, text_records}
use Rattle.au_engine.proofs.NumberedColumns.{field_kinds, header_long, header_names, header_sound, header_text, header_written, names_from}
use Rattle.au_engine.proofs.PlainRecords.{IsSound, record_sound, row_read, row_text}

-- ---- defects

module _ (ks : List Kind) where
  -- each row has the kinds, and is sound
  abbrev AreSound : Rows → Type 0
  AreSound rows = AllByRecursion (λ row. (map kind_of row ≡ ks) × IsSound row) rows

  rows_sound : (n : ℕ) (rows : Rows) → AreSound rows
      → flat_map (record_defects (format_of []) (length ks) (field_kinds ks)) (enumerate_from n (fields_of_rows rows)) ≡ []
  rows_sound n [] h = refl
  rows_sound n (row ∷ rows) h =
      let own : record_defects (format_of []) (length ks) (field_kinds ks) (n, map cell_field row) ≡ [] =
      subst (λ js. record_defects (format_of []) (length js) (field_kinds js) (n, map cell_field row) ≡ []) h.0.0 (record_sound n row h.0.1.held) in
      rw own (rows_sound (n + 1) rows h.1)

  rows_text_sound : (rows : Rows) → AreSound rows → list_all is_text (fields_of_rows rows) ≡ true
  rows_text_sound [] h = refl
  rows_text_sound (row ∷ rows) h = rw (row_text row h.0.1) (rows_text_sound rows h.1)

-- each record of a plain table is a block without a defect
pub blocks_sound : (n : ℕ) (rs : List Record) → flat_map block_defects (enumerate_from n (entry_blocks (format_of []) rs)) ≡ []
blocks_sound n [] = refl
blocks_sound n (r ∷ rs) = blocks_sound (n + 1) rs

no_defects : (k : Kind) (ks : List Kind) (rs : List Record) → not_text (header_from 0 (k ∷ ks) ∷ rs) ≡ None
    → header_defects (format_of []) (header_from 0 (k ∷ ks)) ≡ []
    → rows_defects (format_of []) (length (header_from 0 (k ∷ ks))) (written_kinds (header_from 0 (k ∷ ks))) rs ≡ []
    → defects (header_from 0 (k ∷ ks) ∷ rs) ≡ []
no_defects k ks rs text head rows = rw (text, head, rows, blocks_sound 0 rs) refl

-- ---- columns

kinds_hold : (entries : List BlockEntry) (i : ℕ) (ks : List Kind) → map (column_kind entries) (enumerate_from i (field_kinds ks)) ≡ map data_kind ks
kinds_hold entries i [] = refl
kinds_hold entries i (k ∷ ks) = ap (λ js. data_kind k ∷ js) (kinds_hold entries (i + 1) ks)

pub data_again : (k : Kind) → data_kind (data_kind k) ≡ data_kind k
data_again kind.Int = refl
data_again (kind.Dec scale) = refl
data_again kind.Text = refl
data_again kind.Flag = refl

columns_hold : (i : ℕ) (ks : List Kind) → map (λ c. data_kind c.kind) (columns_of (names_from i ks) (map data_kind ks)) ≡ map data_kind ks
columns_hold i [] = refl
columns_hold i (k ∷ ks) = rw (data_again k) (ap (λ js. data_kind k ∷ js) (columns_hold (i + 1) ks))

kinds_read : (k : Kind) (ks : List Kind) (rs : List Record) → header_kinds (header_from 0 (k ∷ ks)) rs ≡ map data_kind (k ∷ ks)
kinds_read k ks rs = ap (inferred_kinds (entries_of (format_of []) rs)) (header_written (k ∷ ks)) ∙ kinds_hold (entries_of (format_of []) rs) 0 (k ∷ ks)

columns_read : (k : Kind) (ks : List Kind) (rs : List Record) → column_kinds (contents (header_from 0 (k ∷ ks) ∷ rs)) ≡ map data_kind (k ∷ ks)
columns_read k ks rs =
    ap (λ names. map (λ c. data_kind c.kind) (columns_of names (header_kinds (header_from 0 (k ∷ ks)) rs))) (header_names (k ∷ ks))
    ∙ ap (λ js. map (λ c. data_kind c.kind) (columns_of (names_from 0 (k ∷ ks)) js)) (kinds_read k ks rs)
    ∙ columns_hold 0 (k ∷ ks)

-- ---- rows

abbrev blocks_in : List Kind → List Record → List Choices
blocks_in ks rs = map (block_of ks) (entry_blocks (format_of []) rs)

rows_back : (ks : List Kind) (rows : Rows) → AreSound ks rows
    → rows_in (blocks_in (map data_kind ks) (fields_of_rows rows)) (map guess_choice (blocks_in (map data_kind ks) (fields_of_rows rows))) ≡ rows
rows_back ks [] h = refl
rows_back ks (row ∷ rows) h =
    let own : guesses (reading.row (map data_kind ks) (map cell_field row)) ≡ row =
    subst (λ js. guesses (reading.row (map data_kind js) (map cell_field row)) ≡ row) h.0.0 (row_read row h.0.1.held) in
    rw own (ap (λ vs. row ∷ vs) (rows_back ks rows h.1))

rows_read : (k : Kind) (ks : List Kind) (rows : Rows) → AreSound (k ∷ ks) rows
    → let t = contents (header_from 0 (k ∷ ks) ∷ fields_of_rows rows) in rows_in t.blocks (map guess_choice t.blocks) ≡ rows
rows_read k ks rows h =
    ap (λ js. rows_in (blocks_in js (fields_of_rows rows)) (map guess_choice (blocks_in js (fields_of_rows rows)))) (kinds_read k ks (fields_of_rows rows))
    ∙ rows_back (k ∷ ks) rows h

-- ---- the table

table_is : (bytes : List ℕ) (rs : List Record) → records_of bytes ≡ rs → defects rs ≡ [] → table_of bytes ≡ Ok (contents rs)
table_is bytes rs e none = ap (λ r. unless (first (defects r)) (contents r)) e ∙ ap (λ d. unless (first d) (contents rs)) none

all_sound : (ks : List Kind) (rows : Rows) → HaveKinds ks rows → FitRows rows → TextRows rows → AreSound ks rows
all_sound ks [] kinds fit texts = tt
all_sound ks (row ∷ rows) kinds fit texts = ((kinds.0, record { held = fit.0; text = texts.0 }), all_sound ks rows kinds.1 fit.1 texts.1)

some_fields : (ks : List Kind) (rows : Rows) → 0 < length ks → HaveKinds ks rows → AllByRecursion (λ row. 0 < length row) rows
some_fields ks [] some h = tt
some_fields ks (row ∷ rows) some h =
    let long : length row ≡ length ks = sym (length-map row kind_of) ∙ ap length h.0 in
    (omega (arith, long, some), some_fields ks rows some h.1)

pub text_read : (ks : List Kind) (rows : Rows) → AreWritable ks rows → (t : BlockTable) × IsTableOf ks rows t
text_read [] rows h = absurd (omega (arith, h.some))
text_read (k ∷ ks) rows h =
    let rs : List Record = fields_of_rows rows in
    let sound = all_sound (k ∷ ks) rows h.kinds h.fit h.texts in
    let texts : list_all is_text (header_from 0 (k ∷ ks) ∷ rs) ≡ true = rw (header_text (k ∷ ks) h.few) (rows_text_sound (k ∷ ks) rows sound) in
    let below : rows_defects (format_of []) (length (header_from 0 (k ∷ ks))) (written_kinds (header_from 0 (k ∷ ks))) rs ≡ [] =
    rw (header_long 0 (k ∷ ks), header_written (k ∷ ks)) (rows_sound (k ∷ ks) 1 rows sound) in
    let none = no_defects k ks rs (position-none is_text (header_from 0 (k ∷ ks) ∷ rs) texts) (header_sound (k ∷ ks) h.few) below in (
      contents (header_from 0 (k ∷ ks) ∷ rs),
      record {
        reads = table_is (rows_text (k ∷ ks) rows) (header_from 0 (k ∷ ks) ∷ rs) (text_records k ks rows (some_fields (k ∷ ks) rows h.some h.kinds)) none;
        columns = columns_read k ks rs;
        guesses = rows_read k ks rows sound;
      },
    )
