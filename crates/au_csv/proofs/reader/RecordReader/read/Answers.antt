-- A record more, the end of the text, and a record that isn't text.
use Rattle.std.proofs.Common.{Bor, ◌≡◌, ◌∙◌, ◌∷◌, ◌++◌, ◌<◌, ◌^◌, ◌+◌, ◌%◌, [], ℕ, List, inl, inr, refl, sym, true, false, Some, None, Ok, Err, length, append_assoc, arith}
use Rattle.std.specs.List.{list_all}
use Rattle.std.proofs.lemmas.List.{length-append}
use Rattle.std.proofs.lemmas.List.Folds.{list_all-append}
use Rattle.csv.specs.Records.{fields_of}
use Rattle.csv.specs.Machine.{next_record}
use Rattle.csv.specs.declared.parser.State.{State}
use Rattle.csv.specs.Reading.{Reached, default_config, strip_bom}
use Rattle.csv.specs.declared.parser.State.TheVariants as st
use Rattle.csv.proofs.ReadFacts.{rows-end, rows-more}
use Rattle.au_csv.specs.declared.faults.CsvFault.TheVariants as fault
use Rattle.au_csv.specs.Texts.{Record, is_text, text_records}
use Rattle.au_csv.proofs.Fields.{not-passes, text-passes}
use Rattle.au_csv.proofs.NotText.{position-first, position-none}
use Rattle.au_csv.proofs.Reached.{records-fit, records-front, records-AreRecords, rows-taken}
use Rattle.au_csv.proofs.Stops.{explained-not_text}
use Rattle.au_csv.proofs.reader.RecordReader.read.Goals as goal

-- the text of records in turn of which the last isn't text, and of all records
not_text_at : (xs ys : List ℕ) (s : State) (rows : List Record) (f : Record) → Reached default_config st.StartRecord (strip_bom xs) (rows ++ f ∷ []) s ys
    → list_all is_text rows ≡ true → is_text f ≡ false → text_records xs ≡ Err (fault.NotText (length rows))
not_text_at xs ys s rows f reached text other =
    let front = records-front default_config (strip_bom xs) ys s (rows ++ f ∷ []) reached in
    let at = position-first is_text rows front.0 f text other in
    rw (front.1, append_assoc rows (f ∷ []) front.0, at) refl

all_text : (xs ys : List ℕ) (s : State) (rows : List Record) → Reached default_config st.StartRecord (strip_bom xs) rows s ys
    → next_record default_config s [] [] ys ≡ None → list_all is_text rows ≡ true → text_records xs ≡ Ok rows
all_text xs ys s rows reached end text =
    let all = records-AreRecords default_config (strip_bom xs) rows (s, ys, reached, end) in
    rw (all, position-none is_text rows text) refl

-- the number of the record behind one more
next_number : (n : ℕ) (rows : List Record) (f : Record) → (length rows < 2 ^ 64 → n ≡ length rows) → length (rows ++ f ∷ []) < 2 ^ 64 → (n + 1) % 2 ^ 64 ≡ length (rows ++ f ∷ [])
next_number n rows f number below =
    let size = length-append rows (f ∷ []) in
    let same = number (omega arith) in
    omega arith

pub returns-in-Ok-true-clause-more : goal.returns-in-Ok-true-clause-more
returns-in-Ok-true-clause-more c bytes rows has found =
    let old = c.args.self.now in
    let read = rw c.in-Ok-true.field-0-test at (c.in-Ok-true.ensures.reads has.trim has.ready) in
    let row = fields_of c.read_record.new.row in
    let more = rows-more (λ (s : Bor (List ℕ)). Some s.now) old.reader c.read_record.new.self row default_config st.StartRecord (strip_bom bytes) has.left rows has.config has.source has.reached read in
    record {
      trim = read.3 ∙ has.trim;
      ready = inl (c.in-Ok-true.ensures.ready has.trim);
      config = read.2 ∙ has.config;
      flexible = c.in-Ok-true.ensures.flexible ∙ has.flexible;
      short = has.short;
      number = next_number old.number rows row has.number;
      text = rw (list_all-append is_text rows (row ∷ []), has.text, text-passes row (c.in-Ok-true.ensures.text has.trim)) refl;
      left = more.0;
      source = more.1;
      reached = more.2;
    }

pub returns-in-Ok-true-clause-few : goal.returns-in-Ok-true-clause-few
returns-in-Ok-true-clause-few c bytes rows has = records-fit bytes has.left c.args.self.now.reader.state rows has.reached

pub returns-in-Ok-false-clause-all : goal.returns-in-Ok-false-clause-all
returns-in-Ok-false-clause-all c bytes rows has found =
    let old = c.args.self.now.reader in
    let read = rw c.in-Ok-false.field-0-test at (c.in-Ok-false.ensures.reads has.trim has.ready) in
    let end = rows-end (λ (s : Bor (List ℕ)). Some s.now) old c.read_record.new.self (fields_of c.read_record.new.row) default_config has.left has.config has.source read in
    all_text bytes has.left old.state rows has.reached end has.text

pub returns-in-Ok-false-clause-few : goal.returns-in-Ok-false-clause-few
returns-in-Ok-false-clause-few c bytes rows has = records-fit bytes has.left c.args.self.now.reader.state rows has.reached

pub returns-in-Err-clause-fault : goal.returns-in-Err-clause-fault
returns-in-Err-clause-fault c bytes rows has =
    let old = c.args.self.now.reader in
    elim c.fault_of.ensures [
      | inl memory ↦ inl memory
      | inr other ↦
          let next = explained-not_text (λ (s : Bor (List ℕ)). Some s.now) old c.read_record.new.self c.in-Err.error.kind other.1 (c.in-Err.ensures.why has.trim has.ready) in
          let taken = rows-taken (λ (s : Bor (List ℕ)). Some s.now) old c.read_record.new.self next.0 default_config st.StartRecord (strip_bom bytes) has.left rows
          has.config has.source has.reached next.1 in
          let fit = records-fit bytes taken.0.2 taken.0.1 (rows ++ next.0 ∷ []) taken.1 in
          let size = length-append rows (next.0 ∷ []) in
          let short = has.short in
          let number = has.number (omega arith) in
          inr (rw (other.0, number) (not_text_at bytes taken.0.2 taken.0.1 rows next.0 taken.1 has.text (not-passes next.0 next.2)))
    ]

pub returns-in-Err-clause-few : goal.returns-in-Err-clause-few
returns-in-Err-clause-few c bytes rows has = records-fit bytes has.left c.args.self.now.reader.state rows has.reached
