-- The generated text is a block table of three columns, with a block for each number.
use Rattle.std.proofs.Common.{◌≡◌, ℕ, ◌≤◌, true, List, [], ◌∷◌, length, map, Option, Some, None, Ok, refl, ap, ◌∙◌, arith, codes, bytes_eq}
use Rattle.std.specs.Prelude.{not, option_map}
use Rattle.std.specs.List.{AllByRecursion, cons_option, list_all}
use Rattle.std.proofs.lemmas.List.{length-map}
use Rattle.au_value.specs.declared.kinds.Kind.{Kind}
use Rattle.au_value.specs.declared.kinds.Kind.TheVariants as kind
use Rattle.au_value.specs.Lists.{distinct}
use Rattle.au_csv.specs.Texts.{Record, is_text, not_text, records_of}
use Rattle.au_csv.proofs.NotText.{position-none}
use Rattle.au_gen.specs.Generator.{text}
use Rattle.au_blocks.specs.declared.column.Column.{Column}
use Rattle.au_blocks.specs.Tables.{BlockTable}
use Rattle.au_blocks.specs.Headers.{format_of, cells_of, written_kinds}
use Rattle.au_blocks.specs.Blocks.{Choices, once}
use Rattle.au_blocks.specs.Entries.{BlockEntry, alternatives, entry_blocks, copies_in, entries_of, block_entry, is_absent, label_of, labelled, role_of}
use Rattle.au_algebra.proofs.Each.{all_filter}
use Rattle.au_blocks.specs.Defects.{defects, header_defects, rows_defects, blocks_defects}
use Rattle.au_blocks.specs.Read.{candidate_of, contents, first, unless, table_of, block_of, header_kinds}
use Rattle.au_cli.proofs.GeneratedDigits.{codes_utf8}
use Rattle.au_cli.proofs.GeneratedRecords.{header_fields, rows_from, text_rows}
use Rattle.au_cli.proofs.GeneratedBlocks.{written, rows_sound, all_text, no_row_defects, no_defects_of_blocks, count_of_blocks}

-- the columns
abbrev pub column_of : List ℕ → Kind → Column
column_of name kind = record { name = name; kind = kind }

abbrev pub generated_columns : List Column
generated_columns = column_of (codes "id") kind.Int ∷ column_of (codes "grp") kind.Text ∷ column_of (codes "amount") kind.Int ∷ []

header_written : written_kinds (cells_of (format_of header_fields) header_fields) ≡ written
header_written = refl

header_sound : header_defects (format_of header_fields) (cells_of (format_of header_fields) header_fields) ≡ []
header_sound = refl

header_text : is_text header_fields ≡ true
header_text =
    let block = codes_utf8 (codes "_block") refl in
    let role = codes_utf8 (codes "_role") refl in
    let id = codes_utf8 (codes "id:int") refl in
    let group = codes_utf8 (codes "grp:text") refl in
    let amount = codes_utf8 (codes "amount:int") refl in
    rw (block, role, id, group, amount) refl

-- records below this header, with no defect of their own
no_defects : (rows : List Record) → not_text (header_fields ∷ rows) ≡ None → rows_defects (format_of header_fields) 5 written rows ≡ [] → blocks_defects (entry_blocks (format_of header_fields) rows) ≡ [] → defects (header_fields ∷ rows) ≡ []
no_defects rows text sound blocks = rw (text, sound, blocks) refl

columns_are : (rows : List Record) → (contents (header_fields ∷ rows)).columns ≡ generated_columns
columns_are rows = refl

blocks_counted : (rows : List Record) → length (contents (header_fields ∷ rows)).blocks ≡ length (entry_blocks (format_of header_fields) rows)
blocks_counted rows = length-map (entry_blocks (format_of header_fields) rows) (block_of (header_kinds header_fields rows))

-- ---- copies

abbrev IsOnce : BlockEntry → Type 0
IsOnce e = e.copies ≡ once

once_behind : {R : Type 0} (made : R → BlockEntry) (role : Option R) (others : List BlockEntry) → ((x : R) → IsOnce (made x)) → AllByRecursion IsOnce others
    → AllByRecursion IsOnce (cons_option (option_map made role) others)
once_behind made None others each h = h
once_behind made (Some x) others each h = (each x, h)

-- a record without numbers of copies stands for one
entries_once : (rows : List Record) → AllByRecursion IsOnce (entries_of (format_of header_fields) rows)
entries_once [] = tt
entries_once (r ∷ rows) = once_behind (λ x. block_entry x (copies_in (format_of header_fields) r) (cells_of (format_of header_fields) r)) (role_of (format_of header_fields) r) (entries_of (format_of header_fields) rows)
    (λ x. refl) (entries_once rows)

-- each alternative stands for one copy
abbrev pub AllOnce : List Choices → Type 0
AllOnce bs = AllByRecursion (λ b. AllByRecursion (λ a. a.copies ≡ once) b.alternatives) bs

candidates_once : (kinds : List Kind) (es : List BlockEntry) → AllByRecursion IsOnce es → AllByRecursion (λ a. a.copies ≡ once) (map (candidate_of kinds) es)
candidates_once kinds [] h = tt
candidates_once kinds (e ∷ es) h = (h.0, candidates_once kinds es h.1)

block_once : (kinds : List Kind) (rows : List Record) → AllByRecursion (λ a. a.copies ≡ once) (block_of kinds (entries_of (format_of header_fields) rows)).alternatives
block_once kinds rows =
    candidates_once kinds (alternatives (entries_of (format_of header_fields) rows)) (all_filter IsOnce (λ e. not (is_absent e.role)) (entries_of (format_of header_fields) rows) (entries_once rows))

labels_once : (kinds : List Kind) (rows : List Record) (labels : List (List ℕ)) → AllOnce (map (block_of kinds) (map (λ label. entries_of (format_of header_fields) (labelled label rows)) labels))
labels_once kinds rows [] = tt
labels_once kinds rows (label ∷ labels) = (block_once kinds (labelled label rows), labels_once kinds rows labels)

-- a block table of these columns, with so many blocks, whose rows stand for one copy each
pub record IsGenerated (bytes : List ℕ) (n : ℕ) (t : BlockTable) : Type 0 where
  pub read : table_of bytes ≡ Ok t
  pub columns : t.columns ≡ generated_columns
  pub count : length t.blocks ≡ n
  pub copies : AllOnce t.blocks

-- records without a defect are a table
table_is : (bytes : List ℕ) (rs : List Record) → records_of bytes ≡ rs → defects rs ≡ [] → table_of bytes ≡ Ok (contents rs)
table_is bytes rs e none = ap (λ r. unless (first (defects r)) (contents r)) e ∙ ap (λ d. unless (first d) (contents rs)) none

pub generated : (start n : ℕ) → n ≤ 100000 → (t : BlockTable) × IsGenerated (text start n) n t
generated start n few =
    let rows = rows_from start 0 n in
    let sound = rows_sound start 0 n (omega arith) in
    let texts : list_all is_text (header_fields ∷ rows) ≡ true = rw header_text (all_text rows sound) in
    let none = no_defects rows (position-none is_text (header_fields ∷ rows) texts) (no_row_defects 1 rows sound) (no_defects_of_blocks start n few) in (
      contents (header_fields ∷ rows),
      record {
        read = table_is (text start n) (header_fields ∷ rows) (text_rows start n few) none;
        columns = columns_are rows;
        count = blocks_counted rows ∙ count_of_blocks start n few;
        copies = labels_once (header_kinds header_fields rows) rows (distinct bytes_eq (map label_of rows));
      },
    )
