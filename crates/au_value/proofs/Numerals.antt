-- A text of digits, with or without a minus, is text that std reads as the same number.
use Rattle.std.specs.Prelude.{◌≡◌, ℕ, ◌<◌, ◌==◌, Bool, true, false, if◌then◌else◌, List, [], ◌∷◌, length, ℤ, pos, negsuc, Some, None, Result, Ok, Err, FitsSigned}
use Rattle.std.specs.List.{list_all}
use Rattle.std.specs.Char.{is_ascii_digit, digit_value}
use Rattle.std.specs.Str.{IsUtf8, IsAscii}
use Rattle.std.specs.Str.Parse.{AllDigits, IsNumeral, ParsesSigned, signed_digits_value, without_leading_sign}
use Rattle.std.specs.Option.{}
use Rattle.std.specs.Result.{result_ok}
use Rattle.std.specs.Int.{w128}
use Rattle.std.proofs.Common.{refl, sym, ◌∙◌, ap, arith, zero, suc, ltb-true}
use Rattle.std.proofs.lemmas.Bool.{and_parts, true≢false}
use Rattle.std.proofs.lemmas.Str.{IsUtf8-from_ascii}
use Rattle.au_value.specs.Numeral.{numeral_value, is_digits, without_minus, written_number, is_i128}

-- a digit's value is below 10, and it is ASCII
digit_small : (c : ℕ) → is_ascii_digit c ≡ true → digit_value c < 10
digit_small c h = grind arith

digit_ascii : (c : ℕ) → is_ascii_digit c ≡ true → c < 128
digit_ascii c h = grind arith

digit_no_plus : (c : ℕ) → is_ascii_digit c ≡ true → (c == 43) ≡ false
digit_no_plus c h = grind arith

-- digits are digits in radix 10
pub all_digits : (cs : List ℕ) → list_all is_ascii_digit cs ≡ true → AllDigits 10 cs
all_digits [] h = tt
all_digits (c ∷ cs) h = let parts = and_parts _ _ h in (digit_small c parts.0, all_digits cs parts.1)

-- a number that fits 128 bits, as a test
pub fits_tested : (z : ℤ) → FitsSigned w128 z → is_i128 z ≡ true
fits_tested (pos n) h = grind (arith, h.sfits)
fits_tested (negsuc n) h = grind (arith, h.sfits)

pub tested_fits : (z : ℤ) → is_i128 z ≡ true → FitsSigned w128 z
tested_fits (pos n) h = record { sfits = grind arith }
tested_fits (negsuc n) h = record { sfits = grind arith }

-- a text of digits is ASCII
pub ascii_digits : (cs : List ℕ) → list_all is_ascii_digit cs ≡ true → IsAscii cs
ascii_digits [] h i = omega arith
ascii_digits (c ∷ cs) h zero = digit_ascii c ((and_parts _ _ h).0)
ascii_digits (c ∷ cs) h (suc i) = ascii_digits cs (and_parts _ _ h).1 i

ascii_after : (c : ℕ) (cs : List ℕ) → c < 128 → IsAscii cs → IsAscii (c ∷ cs)
ascii_after c cs h g zero = h
ascii_after c cs h g (suc i) = g i

-- what is tested of a text with or without a minus
pub record Written (text : List ℕ) : Type 0 where
  pub ascii : IsAscii text
  pub numeral : IsNumeral 10 (without_leading_sign text)
  pub value : signed_digits_value 10 text ≡ written_number text

written_if : (c : ℕ) (cs : List ℕ) (minus : Bool) → (c == 45) ≡ minus → is_digits (if minus then cs else (c ∷ cs)) ≡ true → Written (c ∷ cs)
written_if c cs true e h =
    let parts = and_parts _ _ h in
    let some = and_parts _ _ parts.0 in
    record {
      ascii = ascii_after c cs (grind arith) (ascii_digits cs parts.1);
      numeral = rw e (ltb-true 0 (length cs) some.0, all_digits cs parts.1);
      value = rw e;
    }
written_if c cs false e h =
    let parts = and_parts _ _ h in
    let some = and_parts _ _ parts.0 in
    let first = digit_no_plus c (and_parts _ _ parts.1).0 in
    record {
      ascii = ascii_digits (c ∷ cs) parts.1;
      numeral = rw (e, first) (ltb-true 0 (length (c ∷ cs)) some.0, all_digits (c ∷ cs) parts.1);
      value = rw (e, first);
    }

written : (text : List ℕ) → is_digits (without_minus text) ≡ true → Written text
written [] h = absurd (true≢false (sym h))
written (c ∷ cs) h = written_if c cs (c == 45) refl h

numeral_if : (text : List ℕ) (r : Bool) → is_i128 (written_number text) ≡ r
    → is_digits (without_minus text) ≡ true → numeral_value text ≡ (if r then Some (written_number text) else None)
numeral_if text r e h = rw (h, e)

unfit : (text : List ℕ) (r : Bool) → is_i128 (written_number text) ≡ r → is_digits (without_minus text) ≡ true
    → ¬ (IsNumeral 10 (without_leading_sign text) × FitsSigned w128 (signed_digits_value 10 text)) → r ≡ false
unfit text true e h parsed =
    let w = written text h in
    absurd (parsed (w.numeral, tested_fits _ (ap is_i128 w.value ∙ e)))
unfit text false e h parsed = refl

out_of_range : (text : List ℕ) → is_digits (without_minus text) ≡ true
    → ¬ (IsNumeral 10 (without_leading_sign text) × FitsSigned w128 (signed_digits_value 10 text)) → is_i128 (written_number text) ≡ false
out_of_range text h parsed = unfit text (is_i128 (written_number text)) refl h parsed

-- the number that std reads in a text of digits
pub read : {E : Type 0} (text : List ℕ) (r : Result ℤ E) → is_digits (without_minus text) ≡ true → ParsesSigned w128 10 text r → result_ok r ≡ numeral_value text
read text (Ok z) h parsed =
    let w = written text h in
    ap Some (parsed.1 ∙ w.value) ∙ sym (numeral_if text true (ap is_i128 (sym w.value) ∙ fits_tested _ parsed.0.1) h)
read text (Err e) h parsed = sym (numeral_if text false (out_of_range text h parsed) h)

pub numeral_utf8 : (text : List ℕ) → is_digits (without_minus text) ≡ true → IsUtf8 text
numeral_utf8 text h = IsUtf8-from_ascii text (written text h).ascii
