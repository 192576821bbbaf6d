-- Digits of a number of copies are those of a number that std reads, and of a numeral.
use Rattle.std.proofs.Common.{◌≡◌, ℕ, ◌^◌, ◌<◌, ◌≤◌, true, false, List, [], ◌∷◌, length, refl, sym, arith}
use Rattle.std.specs.Prelude.{◌==◌, nat_le, pos, Some}
use Rattle.std.specs.Char.{is_ascii_digit}
use Rattle.std.specs.Str.Parse.{IsNumeral, digits_value, without_leading_plus}
use Rattle.std.proofs.lemmas.Bool.{and_from, and_parts, ltb-true, true≢false}
use Rattle.std.proofs.lemmas.Int.Digits.{digits_value-lt}
use Rattle.std.proofs.Math.Nat.{pow-le-pow_right}
use Rattle.au_value.specs.Numeral.{is_digits, is_i128, numeral_value}
use Rattle.au_value.proofs.Numerals.{all_digits}
use Rattle.au_blocks.specs.Inferring.{is_numeral}
use Rattle.au_blocks.specs.Spellings.{is_count}

no_plus : (c : ℕ) → is_ascii_digit c ≡ true → (c == 43) ≡ false
no_plus c h = grind arith

plain : (text : List ℕ) → is_count text ≡ true → without_leading_plus text ≡ text
plain [] h = absurd (true≢false (sym h))
plain (c ∷ cs) h =
    let digits = and_parts _ _ (and_parts _ _ h).1 in
    let first = no_plus c digits.0 in
    rw first refl

few_digits : (text : List ℕ) → is_count text ≡ true → length text ≤ 13
few_digits text h = let few : nat_le (length text) 13 ≡ true = (and_parts _ _ (and_parts _ _ h).0).1 in grind (arith, few)

numeral : (text : List ℕ) → is_count text ≡ true → IsNumeral 10 text
numeral text h =
    let parts = and_parts _ _ h in
    (ltb-true 0 (length text) (and_parts _ _ parts.0).0, all_digits text parts.1)

pub count_fits : (text : List ℕ) → is_count text ≡ true → IsNumeral 10 (without_leading_plus text) × (digits_value 10 (without_leading_plus text) < 2 ^ 64)
count_fits text h =
    let n = numeral text h in
    let ten : 0 < 10 = omega arith in
    let low : digits_value 10 text < 10 ^ length text = digits_value-lt 10 text n.1 in
    let power : 10 ^ length text ≤ 10 ^ 13 = pow-le-pow_right ten (few_digits text h) in
    rw (plain text h) (n, omega (arith, low, power))

no_minus : (c : ℕ) → is_ascii_digit c ≡ true → (c == 45) ≡ false
no_minus c h = grind arith

low_fits : (n : ℕ) → n < 2 ^ 64 → is_i128 (pos n) ≡ true
low_fits n low = grind (arith, low)

digits : (text : List ℕ) → is_count text ≡ true → is_digits text ≡ true
digits text h =
    let parts = and_parts _ _ h in
    let few : length text ≤ 13 = few_digits text h in
    let wide : nat_le (length text) 39 ≡ true = grind (arith, few) in
    and_from _ _ (and_from _ _ (and_parts _ _ parts.0).0 wide) parts.1

-- the number that std reads in such digits is that of the numeral
count_number : (text : List ℕ) (n : ℕ) → is_count text ≡ true → n ≡ digits_value 10 (without_leading_plus text) → n < 2 ^ 64 → numeral_value text ≡ Some (pos n)
count_number [] n h is low = absurd (true≢false (sym h))
count_number (c ∷ cs) n h is low =
    let first = no_minus c (and_parts _ _ (and_parts _ _ h).1).0 in
    let value : n ≡ digits_value 10 (c ∷ cs) = rw (plain (c ∷ cs) h) at is in
    rw (first, digits (c ∷ cs) h, ← value, low_fits n low) refl

pub count_numeral : (text : List ℕ) → is_count text ≡ true → is_numeral text ≡ true
count_numeral text h =
    let fits = count_fits text h in
    rw (count_number text (digits_value 10 (without_leading_plus text)) h refl fits.1) refl
