-- A header of numbered columns with their kinds: its names, its kinds, and that it has no defect.
use Rattle.std.proofs.Common.{◌≡◌, ◌≢◌, ℕ, zero, suc, ◌+◌, ◌<◌, ◌≤◌, ◌==◌, ◌||◌, Bool, true, false, List, [], ◌∷◌, ◌++◌, length, get_or, take, drop, map, Option, Some, None, refl, ap, sym, ◌∙◌, arith, decimal, codes, append_assoc, eq-eqb, ne_eqb, IsAscii}
use Rattle.std.specs.Prelude.{nat_lt, zip, position, bytes_eq}
use Rattle.std.specs.List.{enumerate_from, flat_map, list_any, position_or_len}
use Rattle.std.specs.Char.{to_ascii_lowercase}
use Rattle.std.specs.Str.{is_utf8, str_eq_ignore_ascii_case}
use Rattle.std.specs.Str.Parse.{AllDigits}
use Rattle.std.proofs.Math.Seq.{get_or-append_seam, take-append_seam}
use Rattle.std.proofs.lemmas.Bool.{false_from_ne_true, le-ltb, true≢false}
use Rattle.std.proofs.lemmas.Fmt.{IsAscii-decimal, decimal_injective, decimal_is_IsNumeral, length-decimal-le}
use Rattle.std.proofs.lemmas.List.{length-append}
use Rattle.std.proofs.lemmas.List.Folds.{list_any_at}
use Rattle.std.proofs.lemmas.Slice.Eq.{bytes_eq-Decides}
use Rattle.std.proofs.lemmas.Str.{IsAscii-append}
use Rattle.std.proofs.lemmas.Str.Parse.{digit_from_value}
use Rattle.au_value.specs.declared.kinds.Kind.{Kind}
use Rattle.au_value.specs.declared.kinds.Kind.TheVariants as kind
use Rattle.au_value.specs.Order.{data_kind}
use Rattle.au_csv.specs.Texts.{is_text}
use Rattle.au_blocks.specs.Headers.{column_name, column_names, cut, format_of, is_colon, kind_named, written_kind, written_kinds, written_name}
use Rattle.au_blocks.specs.Defects.{column_defects, header_defects, same_name}
use Rattle.au_blocks.proofs.Cuts.{cut-at}
use Rattle.au_sqltext.specs.Records.{column_field, header_from, kind_name}
use Rattle.au_engine.proofs.FieldValues.{ascii_utf8, codes_ascii}

-- ---- one field

-- the name of a column
abbrev pub numbered : ℕ → List ℕ
numbered i = codes "c" ++ decimal i

-- a colon with none behind it
behind_colon : (front name : List ℕ) (k : ℕ) → list_any is_colon name ≡ false → length front + 1 ≤ k → k < length (front ++ 58 ∷ name) → get_or (front ++ 58 ∷ name) k 0 ≢ 58
behind_colon [] name zero none low high = absurd (omega arith)
behind_colon [] name (suc k) none low high =
    λ e. true≢false (sym (list_any_at is_colon name k 0 (omega arith) (eq-eqb (get_or name k 0) 58 e)) ∙ none)
behind_colon (b ∷ front) name zero none low high = absurd (omega arith)
behind_colon (b ∷ front) name (suc k) none low high = behind_colon front name k none (omega arith) (omega arith)

drop_behind : (front name : List ℕ) → drop (length front + 1) (front ++ 58 ∷ name) ≡ name
drop_behind [] name = refl
drop_behind (b ∷ front) name = let e : suc (length front) + 1 ≡ suc (length front + 1) = omega arith in rw e (drop_behind front name)

cut_around : (front name : List ℕ) → list_any is_colon name ≡ false → cut (front ++ 58 ∷ name) ≡ Some (front, name)
cut_around front name none =
    let long = length-append front (58 ∷ name) in
    cut-at (front ++ 58 ∷ name) (length front) (length front + 1) refl (omega (arith, long)) (get_or-append_seam front 58 name 0)
    (λ k low high. behind_colon front name k none low high)
    ∙ rw (take-append_seam front (58 ∷ name), drop_behind front name) refl

kind_colon : (k : Kind) → list_any is_colon (kind_name k) ≡ false
kind_colon kind.Int = refl
kind_colon (kind.Dec scale) = refl
kind_colon kind.Text = refl
kind_colon kind.Flag = refl

-- a name, a colon and a kind
parted : (i : ℕ) (k : Kind) → column_field i k ≡ numbered i ++ 58 ∷ kind_name k
parted i k = append_assoc (numbered i) (codes ":") (kind_name k)

field_cut : (i : ℕ) (k : Kind) → cut (column_field i k) ≡ Some (numbered i, kind_name k)
field_cut i k = ap cut (parted i k) ∙ cut_around (numbered i) (kind_name k) (kind_colon k)

kind_is : (k : Kind) → kind_named (kind_name k) ≡ Some (data_kind k)
kind_is kind.Int = refl
kind_is (kind.Dec scale) = refl
kind_is kind.Text = refl
kind_is kind.Flag = refl

field_kind : (i : ℕ) (k : Kind) → written_kind (column_field i k) ≡ Some (data_kind k)
field_kind i k = rw (field_cut i k) (kind_is k)

field_name : (i : ℕ) (k : Kind) → written_name (format_of []) (column_field i k) ≡ numbered i
field_name i k = rw (field_cut i k, kind_is k) refl

name_is : (j i : ℕ) (k : Kind) → column_name (format_of []) (j, column_field i k) ≡ numbered i
name_is j i k = let some : (length (numbered i) == 0) ≡ false = ne_eqb (length (numbered i)) 0 (λ e. omega arith) in rw (field_name i k, some) refl

-- ---- all fields

abbrev pub names_from : ℕ → List Kind → List (List ℕ)
names_from i [] = []
names_from i (k ∷ ks) = numbered i ∷ names_from (i + 1) ks

pub header_long : (i : ℕ) (ks : List Kind) → length (header_from i ks) ≡ length ks
header_long i [] = refl
header_long i (k ∷ ks) = ap suc (header_long (i + 1) ks)

names_are : (j i : ℕ) (ks : List Kind) → map (column_name (format_of [])) (enumerate_from j (header_from i ks)) ≡ names_from i ks
names_are j i [] = refl
names_are j i (k ∷ ks) = rw (name_is j i k) (ap (λ names. numbered i ∷ names) (names_are (j + 1) (i + 1) ks))

pub header_names : (ks : List Kind) → column_names (format_of []) (header_from 0 ks) ≡ names_from 0 ks
header_names ks = names_are 0 0 ks

abbrev pub field_kinds : List Kind → List (Option Kind)
field_kinds ks = map (λ k. Some (data_kind k)) ks

kinds_are : (i : ℕ) (ks : List Kind) → written_kinds (header_from i ks) ≡ field_kinds ks
kinds_are i [] = refl
kinds_are i (k ∷ ks) = rw (field_kind i k) (ap (λ js. Some (data_kind k) ∷ js) (kinds_are (i + 1) ks))

pub header_written : (ks : List Kind) → written_kinds (header_from 0 ks) ≡ field_kinds ks
header_written ks = kinds_are 0 ks

-- a header of numbered columns begins a plain table
pub header_plain : (k : Kind) (ks : List Kind) → format_of (header_from 0 (k ∷ ks)) ≡ (format_of [])
header_plain k ks = refl

-- ---- UTF-8

kind_ascii : (k : Kind) → IsAscii (kind_name k)
kind_ascii kind.Int = codes_ascii (codes "int") refl
kind_ascii (kind.Dec scale) = codes_ascii (codes "int") refl
kind_ascii kind.Text = codes_ascii (codes "text") refl
kind_ascii kind.Flag = codes_ascii (codes "flag") refl

field_utf8 : (i : ℕ) (k : Kind) → i < 64 → is_utf8 (column_field i k) ≡ true
field_utf8 i k few =
    let name = IsAscii-append (codes "c") (decimal i) (codes_ascii (codes "c") refl) (IsAscii-decimal i (omega arith)) in
    ascii_utf8 (column_field i k) (IsAscii-append (numbered i ++ codes ":") (kind_name k) (IsAscii-append (numbered i) (codes ":") name (codes_ascii (codes ":") refl)) (kind_ascii k))

fields_utf8 : (i : ℕ) (ks : List Kind) → i + length ks ≤ 64 → is_text (header_from i ks) ≡ true
fields_utf8 i [] few = refl
fields_utf8 i (k ∷ ks) few = rw (field_utf8 i k (omega arith)) (fields_utf8 (i + 1) ks (omega arith))

pub header_text : (ks : List Kind) → length ks ≤ 64 → is_text (header_from 0 ks) ≡ true
header_text ks few = fields_utf8 0 ks (omega arith)

-- ---- names that differ

lower_digits : (ds : List ℕ) → AllDigits 10 ds → map to_ascii_lowercase ds ≡ ds
lower_digits [] d = refl
lower_digits (c ∷ ds) d =
    let k = digit_from_value c d.0 in
    let e : to_ascii_lowercase c ≡ c = grind (arith, k) in
    rw e (ap (λ cs. c ∷ cs) (lower_digits ds d.1))

lower_decimal : (i : ℕ) → i < 64 → map to_ascii_lowercase (decimal i) ≡ decimal i
lower_decimal i few = lower_digits (decimal i) (decimal_is_IsNumeral i (omega arith)).0.1

decimals_apart : (i b : ℕ) → i < b → b < 64 → bytes_eq (decimal i) (decimal b) ≡ false
decimals_apart i b before few =
    false_from_ne_true (bytes_eq (decimal i) (decimal b))
    (λ t. let e = decimal_injective i b (omega arith) (omega arith) ((bytes_eq-Decides (decimal i) (decimal b)).0 t) in omega (arith, e))

names_apart : (i b : ℕ) → i < b → b < 64 → str_eq_ignore_ascii_case (numbered i) (numbered b) ≡ false
names_apart i b before few = rw (lower_decimal i (omega arith), lower_decimal b few) (decimals_apart i b before few)

none_equal : (i m b : ℕ) (ks : List Kind) → i + m ≤ b → b < 64 → list_any (λ other. str_eq_ignore_ascii_case other (numbered b)) (take m (names_from i ks)) ≡ false
none_equal i zero b ks before few = refl
none_equal i (suc m) b [] before few = refl
none_equal i (suc m) b (k ∷ ks) before few = rw (names_apart i b (omega arith) few) (none_equal (i + 1) m b ks (omega arith) few)

no_position : {X : Type 0} (p : X → Bool) (xs : List X) → list_any p xs ≡ false → position p xs ≡ None
no_position p xs none = rw (no_place p xs none, le-ltb (length xs) (length xs) (omega arith)) refl
  where
    or_parts : (a b : Bool) → (a || b) ≡ false → (a ≡ false) × (b ≡ false)
    or_parts false b e = (refl, e)
    or_parts true b e = cc e

    no_place : {X : Type 0} (p : X → Bool) (xs : List X) → list_any p xs ≡ false → position_or_len p xs ≡ length xs
    no_place p [] none = refl
    no_place p (x ∷ xs) none =
        let parts = or_parts (p x) (list_any p xs) none in
        let later : position_or_len p xs ≡ length xs = no_place p xs parts.1 in
        rw (parts.0, later) (omega arith)

first_name : (b : ℕ) (ks : List Kind) → b < 64 → same_name (names_from 0 ks) b (numbered b) ≡ None
first_name b ks few = no_position (λ other. str_eq_ignore_ascii_case other (numbered b)) (take b (names_from 0 ks)) (none_equal 0 b b ks (omega arith) few)

-- ---- no defect

field_sound : (all : List Kind) (i : ℕ) (k : Kind) → i < 64 → column_defects (format_of []) (names_from 0 all) (i, numbered i, column_field i k) ≡ []
field_sound all i k few =
    let short = length-decimal-le 2 i (omega arith) (omega arith) (omega arith) in
    let long : nat_lt 128 (length (numbered i)) ≡ false = le-ltb 128 (length (numbered i)) (omega (arith, short)) in
    rw (long, first_name i all few) refl

fields_sound : (all : List Kind) (i : ℕ) (ks : List Kind) → i + length ks ≤ 64
    → flat_map (λ c. column_defects (format_of []) (names_from 0 all) (c.0, c.1.0, c.1.1)) (enumerate_from i (zip (names_from i ks) (header_from i ks))) ≡ []
fields_sound all i [] few = refl
fields_sound all i (k ∷ ks) few = rw (field_sound all i k (omega arith)) (fields_sound all (i + 1) ks (omega arith))

pub header_sound : (ks : List Kind) → length ks ≤ 64 → header_defects (format_of []) (header_from 0 ks) ≡ []
header_sound ks few =
    let wide : nat_lt 64 (length (header_from 0 ks)) ≡ false = le-ltb 64 (length (header_from 0 ks)) (omega (arith, header_long 0 ks)) in
    rw (wide, header_names ks) (fields_sound ks 0 ks (omega arith))
