-- A text of digits is read by std as its number, where that fits.
use Rattle.std.specs.Prelude.{◌≡◌, ℕ, ◌<◌, ◌^◌, ◌==◌, true, false, if◌then◌else◌, List, [], ◌∷◌, Some, None, Result, Ok, Err, OkIff, nat_lt}
use Rattle.std.specs.Char.{is_ascii_digit}
use Rattle.std.specs.Str.Parse.{IsNumeral, ParsesUnsigned, digits_value, without_leading_plus}
use Rattle.std.specs.Result.{result_ok}
use Rattle.std.proofs.Common.{refl, sym, ap, arith}
use Rattle.std.proofs.lemmas.Bool.{and_parts, true≢false}
use Rattle.au_value.proofs.Numerals.{all_digits}
use Rattle.au_words.specs.Words.{is_plain}

-- a digit is no sign
digit_no_plus : (c : ℕ) → is_ascii_digit c ≡ true → (c == 43) ≡ false
digit_no_plus c h = grind arith

-- such a text has no sign
no_plus : (text : List ℕ) → is_plain text ≡ true → without_leading_plus text ≡ text
no_plus [] h = absurd (true≢false (sym h))
no_plus (c ∷ cs) h = let e = digit_no_plus c (and_parts _ _ (and_parts _ _ (and_parts _ _ h).0).1).0 in rw e refl

-- it is a numeral
numeral : (text : List ℕ) → is_plain text ≡ true → IsNumeral 10 text
numeral [] h = absurd (true≢false (sym h))
numeral (c ∷ cs) h = (omega arith, all_digits (c ∷ cs) (and_parts _ _ (and_parts _ _ h).0).1)

-- what std says of a text without a sign
abbrev ParsesNumber : {E : Type 0} → List ℕ → Result ℕ E → Type 0
ParsesNumber text r = OkIff r (IsNumeral 10 text × (digits_value 10 text < 2 ^ 32)) (digits_value 10 text)

-- a number below a bound, and one that is not
below : (n k : ℕ) → n < k → nat_lt n k ≡ true
below n k h = grind arith

not_below : (n k : ℕ) → (n < k → ⊥) → nat_lt n k ≡ false
not_below n k h = grind arith

read_value : {E : Type 0} (text : List ℕ) (r : Result ℕ E) → IsNumeral 10 text → ParsesNumber text r → result_ok r ≡ (if nat_lt (digits_value 10 text) 4294967296 then Some (digits_value 10 text) else None)
read_value text (Ok n) is parsed = let e = below (digits_value 10 text) 4294967296 parsed.0.1 in rw e (ap Some parsed.1)
read_value text (Err e) is parsed = let e = not_below (digits_value 10 text) 4294967296 (λ h. parsed (is, h)) in rw e refl

-- what std reads
pub read : {E : Type 0} (text : List ℕ) (r : Result ℕ E) → is_plain text ≡ true → ParsesUnsigned 32 10 text r
    → result_ok r ≡ (if nat_lt (digits_value 10 text) 4294967296 then Some (digits_value 10 text) else None)
read text r h parsed = read_value text r (numeral text h) (rw (no_plus text h) at parsed)
