-- The field that is written for a value is read as the value, and is UTF-8.
use Rattle.std.proofs.Common.{◌≡◌, ℕ, zero, suc, ◌<◌, ◌^◌, true, false, List, [], ◌∷◌, length, ℤ, pos, negsuc, Some, refl, arith, decimal, codes, IsAscii, ltb-true, lt-ltb, le-leb, ne_eqb}
use Rattle.std.specs.Prelude.{nat_lt}
use Rattle.std.specs.List.{list_all}
use Rattle.std.specs.Char.{is_ascii_digit, digit_value}
use Rattle.std.specs.Fmt.{signed_decimal}
use Rattle.std.specs.Str.{is_utf8}
use Rattle.std.specs.Str.Parse.{AllDigits, digits_value}
use Rattle.std.proofs.lemmas.Bool.{and_parts, and_from}
use Rattle.std.proofs.lemmas.Fmt.{IsAscii-decimal_wide, decimal_is_IsNumeral_wide, length-decimal-le_wide}
use Rattle.std.proofs.lemmas.Str.{IsUtf8-from_ascii, is_utf8-from_IsUtf8}
use Rattle.std.proofs.lemmas.Str.Parse.{digit_from_value}
use Rattle.au_value.specs.declared.value.Value.{Value}
use Rattle.au_value.specs.declared.value.Value.TheVariants.{Int, Text, Flag}
use Rattle.au_value.specs.Numeral.{has_minus, is_digits, is_i128, numeral_value}
use Rattle.au_value.specs.Order.{data_kind, kind_of}
use Rattle.au_value.proofs.Numerals.{tested_fits}
use Rattle.au_expr.specs.Figures.{fit}
use Rattle.au_expr.specs.Numbers.{number_if_any}
use Rattle.au_blocks.specs.Spellings.{value_written}
use Rattle.au_sqltext.specs.Records.{cell_field}
use Rattle.au_engine.specs.EncodedTables.{is_text_value}

-- ---- ASCII

low_codes : (cs : List ℕ) → list_all (λ c. nat_lt c 128) cs ≡ true → IsAscii cs
low_codes [] h i = omega arith
low_codes (c ∷ cs) h zero = ltb-true c 128 (and_parts (nat_lt c 128) (list_all (λ d. nat_lt d 128) cs) h).0
low_codes (c ∷ cs) h (suc i) = low_codes cs (and_parts (nat_lt c 128) (list_all (λ d. nat_lt d 128) cs) h).1 i

pub ascii_utf8 : (cs : List ℕ) → IsAscii cs → is_utf8 cs ≡ true
ascii_utf8 cs h = is_utf8-from_IsUtf8 cs (IsUtf8-from_ascii cs h)

pub codes_ascii : (cs : List ℕ) → list_all (λ c. nat_lt c 128) cs ≡ true → IsAscii cs
codes_ascii cs h = low_codes cs h

ascii_behind : (c : ℕ) (cs : List ℕ) → c < 128 → IsAscii cs → IsAscii (c ∷ cs)
ascii_behind c cs h t zero = h
ascii_behind c cs h t (suc i) = t i

-- ---- digits

ascii_digit : (c : ℕ) → digit_value c < 10 → is_ascii_digit c ≡ true
ascii_digit c d = let k = digit_from_value c d in grind (arith, k)

ascii_digits : (cs : List ℕ) → AllDigits 10 cs → list_all is_ascii_digit cs ≡ true
ascii_digits [] d = refl
ascii_digits (c ∷ cs) d = rw (ascii_digit c d.0) (ascii_digits cs d.1)

module _ (n : ℕ) (small : n < 10 ^ 39) where
  some_decimal : 0 < length (decimal n)
  some_decimal = (decimal_is_IsNumeral_wide n (omega arith)).0.0

  all_decimal : AllDigits 10 (decimal n)
  all_decimal = (decimal_is_IsNumeral_wide n (omega arith)).0.1

  value_decimal : digits_value 10 (decimal n) ≡ n
  value_decimal = (decimal_is_IsNumeral_wide n (omega arith)).1

  is_decimal : is_digits (decimal n) ≡ true
  is_decimal =
      and_from _ _
      (and_from _ _ (lt-ltb 0 (length (decimal n)) some_decimal) (le-leb (length (decimal n)) 39 (length-decimal-le_wide 39 n (omega arith) small (omega arith))))
      (ascii_digits (decimal n) all_decimal)

  ascii_decimal : IsAscii (decimal n)
  ascii_decimal = IsAscii-decimal_wide n (omega arith)

no_minus : (ds : List ℕ) → 0 < length ds → AllDigits 10 ds → has_minus ds ≡ false
no_minus [] some all = absurd (omega arith)
no_minus (d ∷ ds) some all = let k = digit_from_value d all.0 in ne_eqb d 45 (λ e. omega (arith, k))

-- ---- numbers

plain_value : (ds : List ℕ) (n : ℕ) → has_minus ds ≡ false → is_digits ds ≡ true → digits_value 10 ds ≡ n → is_i128 (pos n) ≡ true → numeral_value ds ≡ Some (pos n)
plain_value ds n plain ok is fits = rw (plain, ok, is, fits) refl

minus_value : (ds : List ℕ) (n : ℕ) → is_digits ds ≡ true → digits_value 10 ds ≡ suc n → is_i128 (negsuc n) ≡ true → numeral_value (45 ∷ ds) ≡ Some (negsuc n)
minus_value ds n ok is fits = rw (ok, is, fits) refl

pos_small : (n : ℕ) → is_i128 (pos n) ≡ true → n < 10 ^ 39
pos_small n h = let fits = tested_fits (pos n) h in omega (arith, fits.sfits)

neg_small : (n : ℕ) → is_i128 (negsuc n) ≡ true → suc n < 10 ^ 39
neg_small n h = let fits = tested_fits (negsuc n) h in omega (arith, fits.sfits)

pub number_read : (z : ℤ) → is_i128 z ≡ true → numeral_value (signed_decimal z) ≡ Some z
number_read (pos n) h =
    let small = pos_small n h in
    plain_value (decimal n) n (no_minus (decimal n) (some_decimal n small) (all_decimal n small)) (is_decimal n small) (value_decimal n small) h
number_read (negsuc n) h =
    let small = neg_small n h in
    minus_value (decimal (suc n)) n (is_decimal (suc n) small) (value_decimal (suc n) small) h

number_utf8 : (z : ℤ) → is_i128 z ≡ true → is_utf8 (signed_decimal z) ≡ true
number_utf8 (pos n) h = ascii_utf8 (decimal n) (ascii_decimal n (pos_small n h))
number_utf8 (negsuc n) h =
    ascii_utf8 (45 ∷ decimal (suc n)) (ascii_behind 45 (decimal (suc n)) (omega arith) (ascii_decimal (suc n) (neg_small n h)))

-- ---- values

-- a value that is a number lies in the range
abbrev pub IsHeld : Value → Type 0
IsHeld v = fit (number_if_any v) ≡ true

held_number : (z : ℤ) → IsHeld (Int z) → is_i128 z ≡ true
held_number z h = (and_parts (is_i128 z) true h).0

pub value_read : (v : Value) → IsHeld v → value_written (data_kind (kind_of v)) (cell_field v) ≡ Some v
value_read (Int z) h = rw (number_read z (held_number z h)) refl
value_read (Text bytes) h = refl
value_read (Flag true) h = refl
value_read (Flag false) h = refl

pub value_utf8 : (v : Value) → IsHeld v → is_text_value v ≡ true → is_utf8 (cell_field v) ≡ true
value_utf8 (Int z) h t = number_utf8 z (held_number z h)
value_utf8 (Text bytes) h t = t
value_utf8 (Flag true) h t = ascii_utf8 (codes "true") (codes_ascii (codes "true") refl)
value_utf8 (Flag false) h t = ascii_utf8 (codes "false") (codes_ascii (codes "false") refl)
