-- The values of a table that is read from a text can be written, and the table is a block table.
use Rattle.std.proofs.Common.{◌≡◌, ℕ, zero, suc, ◌+◌, ◌≤◌, Bool, true, false, cond, List, [], ◌∷◌, ◌++◌, length, map, ℤ, Option, Some, None, Ok, inl, inr, refl, subst, arith, codes}
use Rattle.std.specs.Prelude.{◌&&◌, not, drop, position, unwrap_or, option_map, option_and_then, option_to_list, IfSome, bytes_eq}
use Rattle.std.specs.List.{AllByRecursion, cons_option, list_all, position_or_len}
use Rattle.std.specs.Option.{option_or}
use Rattle.std.specs.Str.{is_utf8}
use Rattle.std.proofs.lemmas.Bool.{and_parts, and_from, cases_Bool, cases_lt, lt-ltb}
use Rattle.au_value.specs.declared.kinds.Kind.{Kind}
use Rattle.au_value.specs.declared.kinds.Kind.TheVariants as kind
use Rattle.au_value.specs.declared.value.Value.{Value}
use Rattle.au_value.specs.declared.value.Value.TheVariants as value
use Rattle.au_value.specs.Decimal.{decimal_value, is_decimal, signed_units}
use Rattle.au_value.specs.Lists.{distinct}
use Rattle.au_value.specs.Numeral.{is_digits, is_i128, numeral_value, without_minus, written_number}
use Rattle.au_value.specs.Order.{at_most, is_scale}
use Rattle.au_value.specs.Ranges.{Span, certain, range}
use Rattle.au_csv.specs.Texts.{Record, is_text, not_text, records_of}
use Rattle.au_blocks.specs.declared.faults.TableFault.{TableFault}
use Rattle.au_blocks.specs.declared.faults.TableFault.TheVariants as fault
use Rattle.au_blocks.specs.Tables.{BlockTable, IsBlockTable}
use Rattle.au_blocks.specs.Headers.{cells_of, format_of, has_blocks, lead}
use Rattle.au_blocks.specs.Spellings.{Parts, number_written, parts, number_range, range_written, three, value_written}
use Rattle.au_blocks.specs.Entries.{BlockEntry, alternatives, entry_blocks, copies_in, entries_of, block_entry, is_absent, label_of, labelled, role_of}
use Rattle.au_blocks.specs.Defects.{blocks_defects, defects, schema_defects, table_defects}
use Rattle.au_blocks.specs.Read as reading
use Rattle.au_blocks.specs.Read.{block_of, candidate_of, cell, contents, first, header_kinds, table_of, unless}
use Rattle.au_blocks.proofs.WellFormed.{well-formed}
use Rattle.au_algebra.proofs.Each.{all_filter}
use Rattle.au_engine.specs.EncodedTables.{IsWritableBlock, IsWritableTable, is_writable, is_writable_range}

-- ---- a field

abbrev Written : Value → Type 0
Written v = is_writable v ≡ true

abbrev Ranged : Span → Type 0
Ranged r = is_writable_range r ≡ true

abbrev Held : ℤ → Type 0
Held z = is_i128 z ≡ true

written_number_is : (z : ℤ) → Held z → Written (value.Int z)
written_number_is z h = rw h refl

certain_written : (v : Value) → Written v → Ranged (certain v)
certain_written v h = and_from _ _ (and_from _ _ h h) h

if_held : (a b : Bool) (z : ℤ) → (b ≡ true → Held z) → IfSome (cond (a && b) (Some z) None) Held
if_held true true z h = h refl
if_held true false z h = tt
if_held false b z h = tt

numeral_held : (field : List ℕ) → IfSome (numeral_value field) Held
numeral_held field = if_held (is_digits (without_minus field)) (is_i128 (written_number field)) (written_number field) (λ e. e)

decimal_held : (scale : ℕ) (field : List ℕ) → IfSome (decimal_value scale field) Held
decimal_held scale field = if_held (is_decimal scale field) (is_i128 (signed_units scale field)) (signed_units scale field) (λ e. e)

if_some : (b : Bool) (o : Option ℤ) → IfSome o Held → IfSome (cond b o None) Held
if_some true o h = h
if_some false o h = tt

number_held : (k : Kind) (field : List ℕ) → IfSome (number_written k field) Held
number_held kind.Int field = numeral_held field
number_held (kind.Dec scale) field = if_some (is_scale scale) (decimal_value scale field) (decimal_held scale field)
number_held kind.Text field = tt
number_held kind.Flag field = tt

map_number : (o : Option ℤ) → IfSome o Held → IfSome (option_map value.Int o) Written
map_number None h = tt
map_number (Some z) h = written_number_is z h

flag_held : (a b : Bool) → IfSome (cond a (Some (value.Flag true)) (cond b (Some (value.Flag false)) None)) Written
flag_held true b = refl
flag_held false true = refl
flag_held false false = tt

value_held : (k : Kind) (field : List ℕ) → is_utf8 field ≡ true → IfSome (value_written k field) Written
value_held kind.Int field h = map_number (number_written kind.Int field) (number_held kind.Int field)
value_held (kind.Dec scale) field h = map_number (number_written (kind.Dec scale) field) (number_held (kind.Dec scale) field)
value_held kind.Text field h = h
value_held kind.Flag field h = flag_held (bytes_eq field (codes "true")) (bytes_eq field (codes "false"))

if_ranged : (b : Bool) (r : Span) → Ranged r → IfSome (cond b (Some r) None) Ranged
if_ranged true r h = h
if_ranged false r h = tt

three_held : (a b c : Option ℤ) → IfSome a Held → IfSome b Held → IfSome c Held → IfSome (three number_range a b c) Ranged
three_held None b c h k l = tt
three_held (Some x) None c h k l = tt
three_held (Some x) (Some y) None h k l = tt
three_held (Some x) (Some y) (Some z) h k l =
    if_ranged (at_most (value.Int x) (value.Int y) && at_most (value.Int y) (value.Int z)) (range (value.Int x) (value.Int y) (value.Int z))
    (and_from _ _ (and_from _ _ (written_number_is x h) (written_number_is y k)) (written_number_is z l))

parts_held : (k : Kind) (o : Option Parts) → IfSome (option_and_then (λ p. three number_range (number_written k p.first) (number_written k p.second) (number_written k p.third)) o) Ranged
parts_held k None = tt
parts_held k (Some p) =
    three_held (number_written k p.first) (number_written k p.second) (number_written k p.third) (number_held k p.first) (number_held k p.second) (number_held k p.third)

either_held : (v : Option Value) (r : Option Span) (d : Span) → IfSome v Written → IfSome r Ranged → Ranged d → Ranged (unwrap_or (option_or (option_map certain v) r) d)
either_held None None d h k l = l
either_held None (Some r) d h k l = k
either_held (Some v) r d h k l = certain_written v h

cell_ranged : (k : Kind) (field : List ℕ) → is_utf8 field ≡ true → Ranged (cell (k, field))
cell_ranged k field h =
    either_held (value_written k field) (range_written k field) (certain (value.Text field)) (value_held k field h) (parts_held k (parts field)) (certain_written (value.Text field) h)

row_ranged : (kinds : List Kind) (fields : Record) → is_text fields ≡ true → list_all is_writable_range (reading.row kinds fields) ≡ true
row_ranged [] fields h = refl
row_ranged (k ∷ kinds) [] h = refl
row_ranged (k ∷ kinds) (field ∷ fields) h =
    let p = and_parts (is_utf8 field) (is_text fields) h in
    and_from (is_writable_range (cell (k, field))) (list_all is_writable_range (reading.row kinds fields)) (cell_ranged k field p.0) (row_ranged kinds fields p.1)

-- ---- a block

abbrev AreTexts : List BlockEntry → Type 0
AreTexts es = AllByRecursion (λ e. is_text e.cells ≡ true) es

candidates_ranged : (kinds : List Kind) (es : List BlockEntry) → AreTexts es → AllByRecursion (λ a. list_all is_writable_range a.cells ≡ true) (map (candidate_of kinds) es)
candidates_ranged kinds [] h = tt
candidates_ranged kinds (e ∷ es) h = (row_ranged kinds e.cells h.0, candidates_ranged kinds es h.1)

block_written : (kinds : List Kind) (es : List BlockEntry) → AreTexts es → IsWritableBlock (block_of kinds es)
block_written kinds es h = candidates_ranged kinds (alternatives es) (all_filter (λ e. is_text e.cells ≡ true) (λ e. not (is_absent e.role)) es h)

blocks_written : (kinds : List Kind) (bs : List (List BlockEntry)) → AllByRecursion AreTexts bs → AllByRecursion IsWritableBlock (map (block_of kinds) bs)
blocks_written kinds [] h = tt
blocks_written kinds (es ∷ bs) h = (block_written kinds es h.0, blocks_written kinds bs h.1)

-- ---- the records

drop_text : (n : ℕ) (r : Record) → is_text r ≡ true → is_text (drop n r) ≡ true
drop_text zero r h = h
drop_text (suc n) [] h = refl
drop_text (suc n) (field ∷ r) h = drop_text n r (and_parts (is_utf8 field) (is_text r) h).1

abbrev AreTextRecords : List Record → Type 0
AreTextRecords rs = AllByRecursion (λ r. is_text r ≡ true) rs

all_records : (rs : List Record) → list_all is_text rs ≡ true → AreTextRecords rs
all_records [] h = tt
all_records (r ∷ rs) h = let p = and_parts (is_text r) (list_all is_text rs) h in (p.0, all_records rs p.1)

text_behind : {R : Type 0} (made : R → BlockEntry) (role : Option R) (es : List BlockEntry) → ((x : R) → is_text (made x).cells ≡ true) → AreTexts es → AreTexts (cons_option (option_map made role) es)
text_behind made None es each h = h
text_behind made (Some x) es each h = (each x, h)

module _ (header : Record) where
  entries_texts : (rs : List Record) → AreTextRecords rs → AreTexts (entries_of (format_of header) rs)
  entries_texts [] h = tt
  entries_texts (r ∷ rs) h =
      text_behind (λ x. block_entry x (copies_in (format_of header) r) (cells_of (format_of header) r)) (role_of (format_of header) r) (entries_of (format_of header) rs)
      (λ x. drop_text (lead (format_of header)) r h.0) (entries_texts rs h.1)

  labels_texts : (rs : List Record) (labels : List (List ℕ)) → AreTextRecords rs → AllByRecursion AreTexts (map (λ label. entries_of (format_of header) (labelled label rs)) labels)
  labels_texts rs [] h = tt
  labels_texts rs (label ∷ labels) h =
      (entries_texts (labelled label rs) (all_filter (λ r. is_text r ≡ true) (λ r. bytes_eq label (label_of r)) rs h), labels_texts rs labels h)

plain_texts : (rs : List Record) → AreTextRecords rs → AllByRecursion AreTexts (entry_blocks (format_of []) rs)
plain_texts [] h = tt
plain_texts (r ∷ rs) h = ((h.0, tt), plain_texts rs h.1)

either_texts : (b : Bool) (xs ys : List (List BlockEntry)) → AllByRecursion AreTexts xs → AllByRecursion AreTexts ys → AllByRecursion AreTexts (cond b xs ys)
either_texts true xs ys h k = h
either_texts false xs ys h k = k

blocks_texts : (header : Record) (rs : List Record) → AreTextRecords rs → AllByRecursion AreTexts (entry_blocks (format_of header) rs)
blocks_texts header rs h =
    either_texts (has_blocks (format_of header)) (map (λ label. entries_of (format_of header) (labelled label rs)) (distinct bytes_eq (map label_of rs))) (entry_blocks (format_of []) rs)
    (labels_texts header rs (distinct bytes_eq (map label_of rs)) h) (plain_texts rs h)

-- ---- no defect

front_none : (xs ys : List TableFault) → first (xs ++ ys) ≡ None → (first xs ≡ None) × (first ys ≡ None)
front_none [] ys e = (refl, e)
front_none (x ∷ xs) ys e = cc

no_place : (o : Option ℕ) → first (map fault.NotText (option_to_list o)) ≡ None → o ≡ None
no_place None e = refl
no_place (Some r) e = cc

all_pass : {X : Type 0} (p : X → Bool) (xs : List X) → length xs ≤ position_or_len (λ x. not (p x)) xs → list_all p xs ≡ true
all_pass p [] h = refl
all_pass p (x ∷ xs) h = elim (cases_Bool (p x)) [
  | inl here ↦ (let more : suc (length xs) ≤ 1 + position_or_len (λ z. not (p z)) xs = rw here at h in and_from (p x) (list_all p xs) here (all_pass p xs (omega arith)))
  | inr other ↦ (let never : suc (length xs) ≤ 0 = rw other at h in absurd (omega arith))
]

none_at : {X : Type 0} (p : X → Bool) (xs : List X) → position p xs ≡ None → length xs ≤ position_or_len p xs
none_at p xs e = elim (cases_lt (position_or_len p xs) (length xs)) [
  | inl below ↦ (let some : position p xs ≡ Some (position_or_len p xs) = rw (lt-ltb (position_or_len p xs) (length xs) below) refl in cc)
  | inr past ↦ past
]

records_text : (rs : List Record) → not_text rs ≡ None → AreTextRecords rs
records_text rs e = all_records rs (all_pass is_text rs (none_at (λ r. not (is_text r)) rs e))

-- ---- the table

ok_is : {T : Type 0} (o : Option TableFault) (c t : T) → unless o c ≡ Ok t → (o ≡ None) × (c ≡ t)
ok_is None c t e = (refl, let same : c ≡ t = cc in same)
ok_is (Some f) c t e = cc

contents_good : (rs : List Record) → first (table_defects rs) ≡ None → AreTextRecords rs → IsBlockTable (contents rs) × IsWritableTable (contents rs)
contents_good [] none texts = cc
contents_good (header ∷ rs) none texts =
    let sound = front_none (schema_defects header rs) (blocks_defects (entry_blocks (format_of header) rs)) none in
    (well-formed header rs sound.0 sound.1, blocks_written (header_kinds header rs) (entry_blocks (format_of header) rs) (blocks_texts header rs texts.1))

pub read_good : (bytes : List ℕ) (t : BlockTable) → table_of bytes ≡ Ok t → IsBlockTable t × IsWritableTable t
read_good bytes t e =
    let rs = records_of bytes in
    let is = ok_is (first (defects rs)) (contents rs) t e in
    let sound = front_none (map fault.NotText (option_to_list (not_text rs))) (table_defects rs) is.0 in
    subst (λ u. IsBlockTable u × IsWritableTable u) is.1 (contents_good rs sound.1 (records_text rs (no_place (not_text rs) sound.0)))
