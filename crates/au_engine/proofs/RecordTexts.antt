-- The records of the text of rows: a header of numbered columns, and a record for each row.
use Rattle.std.proofs.Common.{◌≡◌, ℕ, ◌<◌, List, [], ◌∷◌, ◌++◌, Some, None, length, map, refl, ap, ◌∙◌, arith}
use Rattle.std.specs.List.{AllByRecursion, flat_map}
use Rattle.csv.specs.declared.parser.State.TheVariants as st
use Rattle.csv.specs.Machine.{next_record}
use Rattle.csv.specs.Reading.{default_config, Reached, records, strip_bom}
use Rattle.csv.proofs.RoundTrip.{read-write}
use Rattle.std.specs.Fmt.{digits}
use Rattle.au_value.specs.declared.kinds.Kind.{Kind}
use Rattle.au_value.specs.declared.kinds.Kind.TheVariants as kind
use Rattle.au_csv.specs.Texts.{Record, records_of}
use Rattle.au_csv.proofs.Reached.{records-AreRecords}
use Rattle.au_algebra.specs.Ordinary.{Rows}
use Rattle.au_sqltext.specs.Records.{cell_field, header_from, record_text, rows_text}

-- a record of one or more fields is read back
begins : (f : List ℕ) (fs : Record) (tail : List ℕ) → next_record default_config st.StartRecord [] [] (record_text (f ∷ fs) ++ tail) ≡ Some (f ∷ fs, st.StartRecord, tail)
unfolding record_text
begins f fs tail = read-write (f ∷ fs) tail

-- the fields of rows
abbrev pub fields_of_rows : Rows → List Record
fields_of_rows rows = map (map cell_field) rows

abbrev texts_of_rows : Rows → List ℕ
texts_of_rows rows = flat_map (λ row. record_text (map cell_field row)) rows

rows_begin : (rows : Rows) → AllByRecursion (λ row. 0 < length row) rows → Reached default_config st.StartRecord (texts_of_rows rows) (fields_of_rows rows) st.StartRecord []
unfolding Reached
rows_begin [] h = (refl, refl)
rows_begin ([] ∷ rows) h = absurd (omega (arith, h.0))
rows_begin ((v ∷ vs) ∷ rows) h =
    ((cell_field v ∷ map cell_field vs, st.StartRecord, texts_of_rows rows), begins (cell_field v) (map cell_field vs) (texts_of_rows rows), refl, rows_begin rows h.1)

-- the header does not begin with a byte order mark
no_mark : (k : Kind) (ks : List Kind) (tail : List ℕ) → strip_bom (record_text (header_from 0 (k ∷ ks)) ++ tail) ≡ record_text (header_from 0 (k ∷ ks)) ++ tail
unfolding strip_bom record_text digits
no_mark kind.Int ks tail = refl
no_mark (kind.Dec scale) ks tail = refl
no_mark kind.Text ks tail = refl
no_mark kind.Flag ks tail = refl

ends : next_record default_config st.StartRecord [] [] [] ≡ None
unfolding next_record
ends = refl

whole : (k : Kind) (ks : List Kind) (rows : Rows) → AllByRecursion (λ row. 0 < length row) rows
    → Reached default_config st.StartRecord (rows_text (k ∷ ks) rows) (header_from 0 (k ∷ ks) ∷ fields_of_rows rows) st.StartRecord []
unfolding Reached
whole k ks rows h =
    let header : Record = header_from 0 (k ∷ ks) in
    ((header, st.StartRecord, texts_of_rows rows), begins _ _ (texts_of_rows rows), refl, rows_begin rows h)

pub text_records : (k : Kind) (ks : List Kind) (rows : Rows) → AllByRecursion (λ row. 0 < length row) rows
    → records_of (rows_text (k ∷ ks) rows) ≡ header_from 0 (k ∷ ks) ∷ fields_of_rows rows
text_records k ks rows h =
    ap (records default_config) (no_mark k ks (texts_of_rows rows))
    ∙ records-AreRecords default_config (rows_text (k ∷ ks) rows) (header_from 0 (k ∷ ks) ∷ fields_of_rows rows) (st.StartRecord, [], whole k ks rows h, ends)
