-- The records that a reader gave are the first of its text.
use Rattle.std.proofs.Common.{◌≡◌, ◌∙◌, ℕ, List, ◌∷◌, ◌++◌, Option, Some, None, Ok, sym}
use Rattle.au_csv.specs.Reader.{HasRead}
use Rattle.au_csv.specs.Texts.{Record, not_text, records_of, text_records, unless_not_text}
use Rattle.au_csv.specs.declared.reader.RecordReader.{RecordReader}
use Rattle.au_csv.proofs.Reached.{records-front}

-- records each of which is text are those of the text
same-records : (o : Option ℕ) (rows all : List Record) → unless_not_text o rows ≡ Ok all → rows ≡ all
same-records None rows all is = cc
same-records (Some n) rows all is = cc

same-tail : (a b : Record) (xs ys : List Record) → a ∷ xs ≡ b ∷ ys → xs ≡ ys
same-tail a b xs ys same = cc

read-first : (bytes : List ℕ) (read all : List Record) (reader : RecordReader) → HasRead bytes read reader → text_records bytes ≡ Ok all → (rest : List Record) × (all ≡ read ++ rest)
read-first bytes read all reader has text =
    let front = records-front _ _ has.left reader.reader.state read has.reached in
    (front.0, sym (same-records (not_text (records_of bytes)) (records_of bytes) all text) ∙ front.1)

-- and so those below the header
pub rows-first : (bytes : List ℕ) (read rows : List Record) (first header : Record) (reader : RecordReader) → HasRead bytes (first ∷ read) reader → text_records bytes ≡ Ok (header ∷ rows)
    → (rest : List Record) × (rows ≡ read ++ rest)
rows-first bytes read rows first header reader has text =
    let front = read-first bytes (first ∷ read) (header ∷ rows) reader has text in
    (front.0, same-tail header first rows (read ++ front.0) front.1)
