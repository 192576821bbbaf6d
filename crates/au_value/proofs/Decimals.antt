-- Numbers that are read from digits, and a decimal from its digits before and behind the point.
use Rattle.std.specs.Prelude.{◌≡◌, ℕ, ◌+◌, ◌-◌, ◌*◌, ◌^◌, ◌<◌, ◌≤◌, ◌==◌, ◌&&◌, Bool, true, false, List, [], ◌∷◌, ◌++◌, length, take, drop, Option, Some, None, Result, Ok, Err, nat_lt, nat_le, position}
use Rattle.std.specs.List.{position_or_len, before_first, after_first}
use Rattle.std.specs.Char.{is_ascii_digit, digit_value}
use Rattle.std.specs.Str.{IsUtf8}
use Rattle.std.specs.Str.Parse.{IsNumeral, ParsesUnsigned, digits_value, digits_value_after, without_leading_plus}
use Rattle.std.specs.Result.{result_ok}
use Rattle.std.proofs.Common.{refl, sym, ◌∙◌, ap, subst, arith, zero, suc, inl, inr}
use Rattle.std.proofs.lemmas.Bool.{and_parts, and_from, true≢false, ltb-true, ltb-false, cases_Bool}
use Rattle.std.proofs.lemmas.Nat.{pow-add}
use Rattle.std.proofs.lemmas.Str.{IsUtf8-from_ascii}
use Rattle.std.proofs.Math.Nat.{le-mul_of_pos_right}
use Rattle.au_value.specs.Numeral.{is_digits, without_minus}
use Rattle.au_value.specs.Decimal.{Reads, is_point, is_fraction, is_decimal, decimal_units, held_sum}
use Rattle.au_value.proofs.Numerals.{all_digits, ascii_digits}

-- the next power of ten
next_power : (k : ℕ) → 10 ^ suc k ≡ 10 * 10 ^ k
next_power k = let next : suc k ≡ 1 + k = omega arith in ap (λ n. 10 ^ n) next ∙ pow-add 10 1 k

-- a power of ten is positive
pub ten_pos : (k : ℕ) → 0 < 10 ^ k
ten_pos zero = omega arith
ten_pos (suc k) =
    let rest = ten_pos k in
    let power = next_power k in
    omega (arith, rest, power)

-- digits behind others
after_append : (n : ℕ) (xs ys : List ℕ) → digits_value_after 10 n (xs ++ ys) ≡ digits_value_after 10 (digits_value_after 10 n xs) ys
after_append n [] ys = refl
after_append n (x ∷ xs) ys = after_append (n * 10 + digit_value x) xs ys

spread : (n d p r : ℕ) → (n * 10 + d) * p + r ≡ n * (10 * p) + ((0 * 10 + d) * p + r)
spread n d p r = omega arith

after_from : (n : ℕ) (ys : List ℕ) → digits_value_after 10 n ys ≡ n * 10 ^ length ys + digits_value_after 10 0 ys
after_from n [] = omega arith
after_from n (y ∷ ys) =
    let left = after_from (n * 10 + digit_value y) ys in
    let right = after_from (0 * 10 + digit_value y) ys in
    let power : 10 ^ length (y ∷ ys) ≡ 10 * 10 ^ length ys = next_power (length ys) in
    left ∙ spread n (digit_value y) (10 ^ length ys) (digits_value_after 10 0 ys) ∙ rw (power, right) refl

-- the units of a decimal are those of its two parts
units_parts : (whole behind : List ℕ) (scale : ℕ) → length behind ≤ scale
    → digits_value 10 (whole ++ behind) * 10 ^ (scale - length behind) ≡ digits_value 10 whole * 10 ^ scale + digits_value 10 behind * 10 ^ (scale - length behind)
units_parts whole behind scale few =
    let joined = after_append 0 whole behind ∙ after_from (digits_value 10 whole) behind in
    let places : length behind + (scale - length behind) ≡ scale = omega arith in
    let power : 10 ^ scale ≡ 10 ^ length behind * 10 ^ (scale - length behind) = ap (λ n. 10 ^ n) (sym places) ∙ pow-add 10 (length behind) (scale - length behind) in
    rw (joined, power) omega arith

no_plus : (c : ℕ) → is_ascii_digit c ≡ true → (c == 43) ≡ false
no_plus c h = grind arith

-- a text of digits has no sign
digits_plain : (text : List ℕ) → is_digits text ≡ true → without_leading_plus text ≡ text
digits_plain [] h = absurd (true≢false (sym h))
digits_plain (c ∷ cs) h =
    let digits = and_parts _ _ (and_parts _ _ h).1 in
    let first : (c == 43) ≡ false = no_plus c digits.0 in
    rw first refl

digits_numeral : (text : List ℕ) → is_digits text ≡ true → IsNumeral 10 text
digits_numeral text h =
    let parts = and_parts _ _ h in
    (ltb-true 0 (length text) (and_parts _ _ parts.0).0, all_digits text parts.1)

too_large : (n k : ℕ) → ¬ (n < k) → k ≤ n
too_large n k h = elim (cases_Bool (nat_lt n k)) [
  | inl here ↦ absurd (h (ltb-true n k here))
  | inr here ↦ ltb-false n k here
]

-- the number that std reads in a text of digits
pub read_digits : {E : Type 0} (text : List ℕ) (r : Result ℕ E) → is_digits text ≡ true → ParsesUnsigned 128 10 text r → Reads (is_digits text) (digits_value 10 text) (result_ok r)
read_digits text (Ok n) h parsed = (h, parsed.1 ∙ ap (digits_value 10) (digits_plain text h))
read_digits text (Err e) h parsed =
    λ _. too_large _ _ (λ small. parsed (rw (digits_plain text h) (digits_numeral text h, small)))

pub more_zeros : (right : Bool) (n zeros : ℕ) → (right ≡ true → 2 ^ 128 ≤ n) → right ≡ true → 2 ^ 128 ≤ n * 10 ^ zeros
more_zeros right n zeros large h =
    let here = large h in
    let more : n ≤ n * 10 ^ zeros = le-mul_of_pos_right n (ten_pos zeros) in
    omega (arith, here, more)

-- a sum of two numbers that were read
sum-reads : (p q : Bool) (m n : ℕ) (a b : Option ℕ) → Reads p m a → Reads q n b → Reads (p && q) (m + n) (held_sum a b)
sum-reads p q m n None b ra rb = λ both. let large : 2 ^ 128 ≤ m = ra (and_parts _ _ both).0 in omega (arith, large)
sum-reads p q m n (Some x) None ra rb = λ both. let large : 2 ^ 128 ≤ n = rb (and_parts _ _ both).1 in omega (arith, large)
sum-reads p q m n (Some x) (Some y) ra rb =
    elim (cases_Bool (nat_lt (x + y) (2 ^ 128))) [
      | inl here ↦ rw here (and_from _ _ ra.0 rb.0, rw (ra.1, rb.1) refl)
      | inr here ↦ let large = ltb-false (x + y) (2 ^ 128) here in rw here (λ _. rw (← ra.1, ← rb.1) large)
    ]

le_tested : (m n : ℕ) → nat_le m n ≡ true → m ≤ n
le_tested m n h = grind (arith, h)

-- the two parts round the first point
point-parts : (text : List ℕ) (i : ℕ) → position is_point text ≡ Some i
    → (i < length text) × (before_first is_point text ≡ take i text) × (after_first is_point text ≡ drop (i + 1) text)
point-parts text i found =
    elim (cases_Bool (nat_lt (position_or_len is_point text) (length text))) [
      | inl here ↦
          let at : position_or_len is_point text ≡ i = let e = rw here at found in cc in
          (subst (λ n. n < length text) at (ltb-true _ _ here), rw at refl, rw at refl)
      | inr here ↦ let e = rw here at found in cc
    ]

-- the same number by another name
reads-same : (right : Bool) (m n : ℕ) (a : Option ℕ) → (right ≡ true → m ≡ n) → Reads right m a → Reads right n a
reads-same right m n None same reads = λ h. let large = reads h in let e = same h in omega (arith, large, e)
reads-same right m n (Some x) same reads = (reads.0, reads.1 ∙ same reads.0)

pub units-reads : (text rest : List ℕ) (scale i : ℕ) (a b : Option ℕ) → position is_point text ≡ Some i → rest ≡ drop (i + 1) text
    → Reads (is_digits (without_minus (take i text))) (digits_value 10 (without_minus (take i text)) * 10 ^ scale) a
    → Reads (is_fraction scale rest) (digits_value 10 rest * 10 ^ (scale - length rest)) b
    → Reads (is_decimal scale text) (decimal_units scale text) (held_sum a b)
units-reads text rest scale i a b found behind ra rb =
    let parts = point-parts text i found in
    let whole = without_minus (take i text) in
    let sum = sum-reads _ _ _ _ a b ra rb in
    rw (found, parts.1, parts.2, ← behind) (reads-same _ _ _ (held_sum a b) (λ both. sym (units_parts whole rest scale (le_tested _ _ (and_parts _ _ (and_parts _ _ both).1).1))) sum)

pub digits_utf8 : (text : List ℕ) → is_digits text ≡ true → IsUtf8 text
digits_utf8 text h = IsUtf8-from_ascii text (ascii_digits text (and_parts _ _ h).1)
