-- The records of the generated text: that of its header, and those of each block.
use Rattle.std.proofs.Common.{◌≡◌, ℕ, zero, suc, ◌+◌, ◌*◌, ◌%◌, ◌≤◌, ◌==◌, Bool, true, false, List, [], ◌∷◌, ◌++◌, Some, None, refl, ap, sym, ◌∙◌, subst, arith, decimal, codes, append_assoc}
use Rattle.std.specs.Prelude.{if◌then◌else◌}
use Rattle.std.specs.List.{flat_map, range_with_len}
use Rattle.std.proofs.lemmas.List.{append-nil}
use Rattle.csv.specs.declared.parser.State.{State}
use Rattle.csv.specs.declared.parser.State.TheVariants as st
use Rattle.csv.specs.Machine.{next_record}
use Rattle.csv.specs.Reading.{default_config, Reached, strip_bom, records}
use Rattle.csv.specs.Writing.{fields_text, is_blank}
use Rattle.csv.proofs.RoundTrip.{read-write-many}
use Rattle.au_csv.specs.Texts.{Record, records_of}
use Rattle.au_csv.proofs.Reached.{records-AreRecords}
use Rattle.au_gen.specs.Generator.{guess_record, alternative_record, absent_record, block_text, draw, drawn_block, header, text}
use Rattle.au_cli.proofs.GeneratedDigits.{IsPlain, decimal_plain, lettered_plain}

-- a text begins with this record, and these bytes are left
abbrev Begins : List ℕ → Record → List ℕ → Type 0
Begins bytes row rest = next_record default_config st.StartRecord [] [] bytes ≡ Some (row, st.StartRecord, rest)

-- a text begins with these records
abbrev BeginWith : List ℕ → List Record → List ℕ → Type 0
BeginWith bytes rows rest = Reached default_config st.StartRecord bytes rows st.StartRecord rest

-- five fields without marks, with commas between them and a line feed behind the last
five_fields : (a b c d e tail : List ℕ) → IsPlain a → IsPlain b → IsPlain c → IsPlain d → IsPlain e
    → Begins (a ++ (44 ∷ (b ++ (44 ∷ (c ++ (44 ∷ (d ++ (44 ∷ (e ++ (10 ∷ tail)))))))))) (a ∷ b ∷ c ∷ d ∷ e ∷ []) tail
unfolding is_blank fields_text
five_fields a b c d e tail pa pb pc pd pe =
    let written = read-write-many a b (c ∷ d ∷ e ∷ []) tail in
    let plain = rw (pa, pb, pc, pd, pe) at written in
    simp (append_assoc, append-nil) at plain

-- ---- the three forms of a record

abbrev pub guess_fields : List ℕ → List ℕ → List ℕ → Record
guess_fields label group amount = label ∷ codes "guess" ∷ label ∷ (codes "g" ++ group) ∷ amount ∷ []

abbrev pub alternative_fields : List ℕ → List ℕ → List ℕ → Record
alternative_fields label group amount = label ∷ codes "alt" ∷ label ∷ (codes "g" ++ group) ∷ amount ∷ []

abbrev pub absent_fields : List ℕ → Record
absent_fields label = label ∷ codes "absent" ∷ [] ∷ [] ∷ [] ∷ []

guess_line : (label group amount tail : List ℕ) → IsPlain label → IsPlain (codes "g" ++ group) → IsPlain amount
    → Begins (label ++ codes ",guess," ++ label ++ codes ",g" ++ group ++ codes "," ++ amount ++ codes "\n" ++ tail) (guess_fields label group amount) tail
guess_line label group amount tail pl pg pa =
    simp append_assoc (five_fields label (codes "guess") label (codes "g" ++ group) amount tail pl refl pl pg pa)

alternative_line : (label group amount tail : List ℕ) → IsPlain label → IsPlain (codes "g" ++ group) → IsPlain amount
    → Begins (label ++ codes ",alt," ++ label ++ codes ",g" ++ group ++ codes "," ++ amount ++ codes "\n" ++ tail) (alternative_fields label group amount) tail
alternative_line label group amount tail pl pg pa =
    simp append_assoc (five_fields label (codes "alt") label (codes "g" ++ group) amount tail pl refl pl pg pa)

absent_line : (label tail : List ℕ) → IsPlain label → Begins (label ++ codes ",absent,,,\n" ++ tail) (absent_fields label) tail
absent_line label tail pl = simp append_assoc (five_fields label (codes "absent") [] [] [] tail pl refl refl refl refl)

-- ---- one record after another

abbrev pub row_if : Bool → Record → List Record
row_if there row = if there then row ∷ [] else []

begin_one : (bytes rest : List ℕ) (row : Record) → Begins bytes row rest → BeginWith bytes (row ∷ []) rest
unfolding Reached
begin_one bytes rest row one = ((row, st.StartRecord, rest), one, refl, (refl, refl))

begin_if : (there : Bool) (line tail : List ℕ) (row : Record) → Begins (line ++ tail) row tail → BeginWith ((if there then line else []) ++ tail) (row_if there row) tail
unfolding Reached
begin_if true line tail row one = begin_one (line ++ tail) tail row one
begin_if false line tail row one = (refl, refl)

onward : (s : State) (bytes middle rest : List ℕ) (rows more : List Record) → Reached default_config s bytes rows st.StartRecord middle → BeginWith middle more rest → Reached default_config s bytes (rows ++ more) st.StartRecord rest
unfolding Reached
onward s bytes middle rest [] more r later =
    subst (λ p. Reached default_config p bytes more st.StartRecord rest) (sym r.0) (subst (λ p. Reached default_config st.StartRecord p more st.StartRecord rest) (sym r.1) later)
onward s bytes middle rest (row ∷ rows) more r later = (r.0, r.1, r.2, onward r.0.1 r.0.2 middle rest rows more r.3 later)

begin_more : (bytes middle rest : List ℕ) (rows more : List Record) → BeginWith bytes rows middle → BeginWith middle more rest → BeginWith bytes (rows ++ more) rest
begin_more bytes middle rest rows more first later = onward st.StartRecord bytes middle rest rows more first later

-- ---- the records of a block

-- of a label, two groups and amounts, and whether there is a second alternative and an absence
abbrev pub labelled_rows : List ℕ → List ℕ → List ℕ → List ℕ → List ℕ → Bool → Bool → List Record
labelled_rows label group amount other more two absent =
    guess_fields label group amount ∷ (row_if two (alternative_fields label other more) ++ row_if absent (absent_fields label))

abbrev pub block_rows : ℕ → ℕ → ℕ → ℕ → List Record
block_rows i a b c = labelled_rows (decimal i) (decimal (a % 4)) (decimal (b % 100)) (decimal ((a + 1) % 4)) (decimal (b % 100 + 7)) (c % 3 == 0) (c % 5 == 0)

block_begins : (i a b c : ℕ) (tail : List ℕ) → i ≤ 100000 → BeginWith (block_text i a b c ++ tail) (block_rows i a b c) tail
block_begins i a b c tail few =
    let label = decimal_plain i few in
    let amount = decimal_plain (b % 100) (omega arith) in
    let more = decimal_plain (b % 100 + 7) (omega arith) in
    let group = lettered_plain (a % 4) (omega arith) in
    let other = lettered_plain ((a + 1) % 4) (omega arith) in
    let absents : List ℕ = if c % 5 == 0 then absent_record i else [] in
    let seconds : List ℕ = if c % 3 == 0 then alternative_record i a b else [] in
    let third = begin_if (c % 5 == 0) (absent_record i) tail (absent_fields (decimal i)) (absent_line (decimal i) tail label) in
    let second = begin_if (c % 3 == 0) (alternative_record i a b) (absents ++ tail) (alternative_fields (decimal i) (decimal ((a + 1) % 4)) (decimal (b % 100 + 7)))
    (alternative_line (decimal i) (decimal ((a + 1) % 4)) (decimal (b % 100 + 7)) (absents ++ tail) label other more) in
    let first = begin_one (guess_record i a b ++ (seconds ++ (absents ++ tail))) (seconds ++ (absents ++ tail)) (guess_fields (decimal i) (decimal (a % 4)) (decimal (b % 100)))
    (guess_line (decimal i) (decimal (a % 4)) (decimal (b % 100)) (seconds ++ (absents ++ tail)) label group amount) in
    let apart : block_text i a b c ++ tail ≡ guess_record i a b ++ (seconds ++ (absents ++ tail)) = regrouped (guess_record i a b) seconds absents tail in
    subst (λ bytes. BeginWith bytes (block_rows i a b c) tail) (sym apart)
    (begin_more _ _ tail _ _ first (begin_more _ _ tail _ _ second third))
  where
    regrouped : (x y z t : List ℕ) → (x ++ y ++ z) ++ t ≡ x ++ (y ++ (z ++ t))
    regrouped x y z t = simp append_assoc

-- ---- the records of all blocks

abbrev pub drawn_rows : ℕ → ℕ → List Record
drawn_rows start j = block_rows (j + 1) (draw start (3 * j + 1)) (draw start (3 * j + 2)) (draw start (3 * j + 3))

abbrev pub rows_from : ℕ → ℕ → ℕ → List Record
rows_from start a n = flat_map (drawn_rows start) (range_with_len a n)

begin_none : BeginWith [] [] []
unfolding Reached
begin_none = (refl, refl)

blocks_begin : (start a n : ℕ) → a + n ≤ 100000 → BeginWith (flat_map (drawn_block start) (range_with_len a n)) (rows_from start a n) []
blocks_begin start a zero few = begin_none
blocks_begin start a (suc n) few =
    let rest = flat_map (drawn_block start) (range_with_len (a + 1) n) in
    begin_more _ rest [] (drawn_rows start a) (rows_from start (a + 1) n)
    (block_begins (a + 1) (draw start (3 * a + 1)) (draw start (3 * a + 2)) (draw start (3 * a + 3)) rest (omega arith))
    (blocks_begin start (a + 1) n (omega arith))

abbrev pub header_fields : Record
header_fields = codes "_block" ∷ codes "_role" ∷ codes "id:int" ∷ codes "grp:text" ∷ codes "amount:int" ∷ []

header_begins : (tail : List ℕ) → Begins (header ++ tail) header_fields tail
header_begins tail = five_fields (codes "_block") (codes "_role") (codes "id:int") (codes "grp:text") (codes "amount:int") tail refl refl refl refl refl

-- no mark of a byte order is dropped
no_mark : (tail : List ℕ) → strip_bom (header ++ tail) ≡ header ++ tail
unfolding strip_bom
no_mark tail = refl

ends : next_record default_config st.StartRecord [] [] [] ≡ None
unfolding next_record
ends = refl

-- the records of the whole text
pub text_rows : (start n : ℕ) → n ≤ 100000 → records_of (text start n) ≡ header_fields ∷ rows_from start 0 n
unfolding text
text_rows start n few =
    let tail = flat_map (drawn_block start) (range_with_len 0 n) in
    let whole = begin_more (header ++ tail) tail [] (header_fields ∷ []) (rows_from start 0 n) (begin_one (header ++ tail) tail header_fields (header_begins tail)) (blocks_begin start 0 n (omega arith)) in
    ap (records default_config) (no_mark tail) ∙ records-AreRecords default_config (header ++ tail) (header_fields ∷ rows_from start 0 n) (st.StartRecord, [], whole, ends)
