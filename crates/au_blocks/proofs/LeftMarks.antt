-- The marks of columns that the records read so far leave, and the kinds that are supposed by them.
use Rattle.std.proofs.Common.{◌≡◌, ◌∙◌, ℕ, ◌+◌, Bool, true, ◌&&◌, List, [], ◌∷◌, ◌++◌, length, map, Option, Some, None, Ok, inl, inr, refl, ap, sym}
use Rattle.std.specs.Prelude.{is_none, unwrap_or, zip}
use Rattle.std.specs.List.{list_all}
use Rattle.std.proofs.lemmas.Bool.{cases_Bool}
use Rattle.std.proofs.lemmas.List.Folds.{list_all-append}
use Rattle.au_value.specs.declared.kinds.Kind.{Kind}
use Rattle.au_csv.specs.Reader.{HasRead}
use Rattle.au_csv.specs.Texts.{Record, text_records}
use Rattle.au_csv.specs.declared.reader.RecordReader.{RecordReader}
use Rattle.au_blocks.specs.declared.format.Format.{Format}
use Rattle.au_blocks.specs.Inferring.{holds_numeral, inferred}
use Rattle.au_blocks.specs.Marks.{AreLeft, marks}
use Rattle.au_blocks.specs.OnePass.{AreSupposed, IsSupposed}
use Rattle.au_blocks.proofs.MarkedColumns.{marks-append, marks-long, marks-none}
use Rattle.au_blocks.proofs.ReadRecords.{rows-first}

-- one record more, as it is lent
pub more-marks : (f : Format) (rows : List Record) (r lent : Record) (bs was now : List Bool) → lent ≡ r → was ≡ marks f rows 0 bs → now ≡ marks f (lent ∷ []) 0 was → now ≡ marks f (rows ++ r ∷ []) 0 bs
more-marks f rows r lent bs was now same is step =
    step ∙ ap (λ x. marks f (x ∷ []) 0 was) same ∙ ap (marks f (r ∷ []) 0) is ∙ marks-append f rows (r ∷ []) 0 bs

-- no record leaves the marks as they are
pub none-left : (f : Format) (rows : List Record) (bs : List Bool) → AreLeft f rows bs bs
none-left f rows bs = record {
  read = [];
  more = rows;
  front = refl;
  left = sym (marks-none f 0 bs);
}

-- the marks that the records below the header left, as a reader gave them
pub read-left : (f : Format) (bytes : List ℕ) (read rows : List Record) (first header : Record) (reader : RecordReader) (before after : List Bool) → HasRead bytes (first ∷ read) reader
    → text_records bytes ≡ Ok (header ∷ rows) → after ≡ marks f read 0 before → AreLeft f rows before after
read-left f bytes read rows first header reader before after has text left =
    let front = rows-first bytes read rows first header reader has text in
    record {
      read = read;
      more = front.0;
      front = front.1;
      left = left;
    }

-- they are as many as before
pub left-long : (f : Format) (rows : List Record) (before after : List Bool) → AreLeft f rows before after → length after ≡ length before
left-long f rows before after left = ap length left.left ∙ marks-long f left.read 0 before

-- a mark that the first records take, all take
kind-supposed : (f : Format) (read more : List Record) (i : ℕ) (w : Option Kind)
    → IsSupposed f (read ++ more) i w (unwrap_or w (inferred ((is_none w && true) && list_all (holds_numeral f i) read)))
kind-supposed f read more i (Some k) = refl
kind-supposed f read more i None =
    elim (cases_Bool (list_all (holds_numeral f i) read)) [
      | inl all ↦ inl (ap inferred all)
      | inr none ↦ inr (ap inferred none, list_all-append (holds_numeral f i) read more ∙ ap (λ b. b && list_all (holds_numeral f i) more) none)
    ]

-- so the kinds by the marks that the first records leave may be supposed for all
kinds-supposed : (f : Format) (read more : List Record) (i : ℕ) (ws : List (Option Kind))
    → AreSupposed f (read ++ more) i ws (map (λ c. unwrap_or c.0 (inferred c.1)) (zip ws (marks f read i (map (λ w. is_none w && true) ws))))
kinds-supposed f read more i [] = tt
kinds-supposed f read more i (w ∷ ws) = (kind-supposed f read more i w, kinds-supposed f read more (i + 1) ws)

pub left-supposed : (f : Format) (rows : List Record) (ws : List (Option Kind)) (bs : List Bool) → AreLeft f rows (map (λ w. is_none w && true) ws) bs
    → AreSupposed f rows 0 ws (map (λ c. unwrap_or c.0 (inferred c.1)) (zip ws bs))
left-supposed f rows ws bs left = rw (left.front, left.left) (kinds-supposed f left.read left.more 0 ws)
