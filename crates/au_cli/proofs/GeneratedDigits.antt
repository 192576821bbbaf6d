-- The decimal digits of a small number as a field: they mark no end, they are UTF-8, and they are the numeral of the number.
use Rattle.std.proofs.Common.{◌≡◌, ℕ, zero, suc, ◌-◌, ◌<◌, ◌≤◌, ◌^◌, ◌==◌, true, false, List, [], ◌∷◌, ◌++◌, length, pos, Some, refl, arith, decimal, codes, IsAscii, ltb-true, lt-ltb, le-leb, ne_eqb}
use Rattle.std.specs.Prelude.{bytes_eq, nat_lt}
use Rattle.std.specs.List.{list_all, list_any}
use Rattle.std.specs.Char.{is_ascii_digit, digit_value}
use Rattle.std.specs.Str.{is_utf8}
use Rattle.std.specs.Str.Parse.{AllDigits, digits_value}
use Rattle.std.proofs.lemmas.Bool.{and_parts, false_from_ne_true}
use Rattle.std.proofs.lemmas.Fmt.{decimal_is_IsNumeral, length-decimal-le, decimal_injective}
use Rattle.std.proofs.lemmas.Slice.Eq.{bytes_eq-Decides}
use Rattle.std.proofs.lemmas.Str.{IsUtf8-from_ascii, is_utf8-from_IsUtf8}
use Rattle.std.proofs.lemmas.Str.Parse.{digit_from_value}
use Rattle.csv.specs.Writing.{default_writer, needs_byte}
use Rattle.au_value.specs.Numeral.{numeral_value}

-- nothing in a field ends a field or a record, or is a quote
abbrev pub IsPlain : List ℕ → Type 0
IsPlain field = list_any (needs_byte default_writer) field ≡ false

-- a digit
plain_digit : (c : ℕ) → digit_value c < 10 → needs_byte default_writer c ≡ false
plain_digit c d = let k = digit_from_value c d in grind (arith, k)

ascii_digit : (c : ℕ) → digit_value c < 10 → is_ascii_digit c ≡ true
ascii_digit c d = let k = digit_from_value c d in grind (arith, k)

-- several digits
plain_digits : (cs : List ℕ) → AllDigits 10 cs → IsPlain cs
plain_digits [] d = refl
plain_digits (c ∷ cs) d = rw (plain_digit c d.0) (plain_digits cs d.1)

ascii_digits : (cs : List ℕ) → AllDigits 10 cs → list_all is_ascii_digit cs ≡ true
ascii_digits [] d = refl
ascii_digits (c ∷ cs) d = rw (ascii_digit c d.0) (ascii_digits cs d.1)

ascii_text : (cs : List ℕ) → AllDigits 10 cs → IsAscii cs
ascii_text [] d i = omega arith
ascii_text (c ∷ cs) d zero = let k = digit_from_value c d.0 in omega (arith, k)
ascii_text (c ∷ cs) d (suc i) = ascii_text cs d.1 i

-- a text of codes below 128
ascii_codes : (cs : List ℕ) → list_all (λ c. nat_lt c 128) cs ≡ true → IsAscii cs
ascii_codes [] h i = omega arith
ascii_codes (c ∷ cs) h zero = ltb-true c 128 (and_parts (nat_lt c 128) (list_all (λ d. nat_lt d 128) cs) h).0
ascii_codes (c ∷ cs) h (suc i) = ascii_codes cs (and_parts (nat_lt c 128) (list_all (λ d. nat_lt d 128) cs) h).1 i

pub codes_utf8 : (cs : List ℕ) → list_all (λ c. nat_lt c 128) cs ≡ true → is_utf8 cs ≡ true
codes_utf8 cs h = is_utf8-from_IsUtf8 cs (IsUtf8-from_ascii cs (ascii_codes cs h))

ascii_more : (c : ℕ) (cs : List ℕ) → c < 128 → IsAscii cs → IsAscii (c ∷ cs)
ascii_more c cs h t zero = h
ascii_more c cs h t (suc i) = t i

-- digits are the numeral of their value
numeral_digits : (cs : List ℕ) (n : ℕ) → AllDigits 10 cs → 0 < length cs → length cs ≤ 39 → digits_value 10 cs ≡ n → n < 2 ^ 127 → numeral_value cs ≡ Some (pos n)
numeral_digits [] n d some few is small = absurd (omega arith)
numeral_digits (c ∷ cs) n d some few is small =
    let k = digit_from_value c d.0 in
    let no_minus : (c == 45) ≡ false = ne_eqb c 45 (λ e. omega (arith, k)) in
    let short = le-leb (length (c ∷ cs)) 39 few in
    let digits = ascii_digits (c ∷ cs) d in
    let fits = le-leb n (2 ^ 127 - 1) (omega arith) in
    let long : nat_lt 0 (length (c ∷ cs)) ≡ true = lt-ltb 0 (length (c ∷ cs)) some in
    rw (no_minus, long, short, digits, is, fits) refl

module _ (n : ℕ) (few : n ≤ 100000) where
  is_number : (0 < length (decimal n)) × AllDigits 10 (decimal n)
  is_number = (decimal_is_IsNumeral n (omega arith)).0

  pub decimal_plain : IsPlain (decimal n)
  decimal_plain = plain_digits (decimal n) is_number.1

  pub decimal_utf8 : is_utf8 (decimal n) ≡ true
  decimal_utf8 = is_utf8-from_IsUtf8 (decimal n) (IsUtf8-from_ascii (decimal n) (ascii_text (decimal n) is_number.1))

  -- a letter and a number
  pub lettered_plain : IsPlain (codes "g" ++ decimal n)
  lettered_plain = decimal_plain

  pub lettered_utf8 : is_utf8 (codes "g" ++ decimal n) ≡ true
  lettered_utf8 =
      is_utf8-from_IsUtf8 (codes "g" ++ decimal n) (IsUtf8-from_ascii (codes "g" ++ decimal n) (ascii_more 103 (decimal n) (omega arith) (ascii_text (decimal n) is_number.1)))

  pub decimal_numeral : numeral_value (decimal n) ≡ Some (pos n)
  decimal_numeral =
      numeral_digits (decimal n) n is_number.1 is_number.0 (let k : length (decimal n) ≤ 6 = length-decimal-le 6 n (omega arith) (omega arith) (omega arith) in omega arith)
      (decimal_is_IsNumeral n (omega arith)).1 (omega arith)

-- numbers with equal digits are equal
pub decimal_apart : (m n : ℕ) → m ≤ 100000 → n ≤ 100000 → (m ≡ n → ⊥) → bytes_eq (decimal m) (decimal n) ≡ false
decimal_apart m n few_m few_n apart =
    false_from_ne_true (bytes_eq (decimal m) (decimal n)) (λ t. apart (decimal_injective m n (omega arith) (omega arith) ((bytes_eq-Decides (decimal m) (decimal n)).0 t)))
