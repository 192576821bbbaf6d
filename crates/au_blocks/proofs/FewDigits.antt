-- A number of so few digits that 64 bits hold it, and one more.
use Rattle.std.proofs.Common.{◌≡◌, ℕ, ◌^◌, ◌<◌, ◌≤◌, true, List, [], length, drop, sym, arith}
use Rattle.std.specs.Prelude.{nat_le, nat_lt}
use Rattle.std.specs.Char.{is_ascii_digit}
use Rattle.std.specs.List.{list_all}
use Rattle.std.specs.Str.Parse.{digits_value, digits_value_after}
use Rattle.std.proofs.lemmas.Bool.{and_from}
use Rattle.std.proofs.lemmas.List.{drop_all}
use Rattle.std.proofs.Math.Nat.{pow-le-pow_right}
use Rattle.au_value.specs.Numeral.{is_digits}
use Rattle.au_blocks.specs.FewDigits.{AreFew}

-- the number of at most 17 digits
pub few-below : (n i : ℕ) → n < 10 ^ i → i < 18 → n < 10 ^ 17
few-below n i low few =
    let ten : 0 < 10 = omega arith in
    let fewer : i ≤ 17 = omega (arith, few) in
    let power : 10 ^ i ≤ 10 ^ 17 = pow-le-pow_right ten fewer in
    omega (arith, low, power)

-- that of at most 18
few-under : (n i : ℕ) → n < 10 ^ i → i ≤ 18 → n < 10 ^ 18
few-under n i low few =
    let ten : 0 < 10 = omega arith in
    let power : 10 ^ i ≤ 10 ^ 18 = pow-le-pow_right ten few in
    omega (arith, low, power)

-- few digits are those of a numeral
few-digits : (text : List ℕ) → 0 < length text → length text ≤ 18 → list_all is_ascii_digit text ≡ true → is_digits text ≡ true
few-digits text some few digits =
    let one : nat_lt 0 (length text) ≡ true = grind (arith, some) in
    let wide : nat_le (length text) 39 ≡ true = grind (arith, few) in
    and_from _ _ (and_from _ _ one wide) digits

-- what is read of a text when none of it is left
pub all-read : (text : List ℕ) (n i : ℕ) → 0 < length text → length text ≤ 18 → i ≤ length text → length text ≤ i → n < 10 ^ i
    → digits_value_after 10 n (drop i text) ≡ digits_value 10 text → list_all is_ascii_digit (drop i text) ≡ list_all is_ascii_digit text → AreFew text n
all-read text n i some few within end low value digits =
    let gone : drop i text ≡ [] = drop_all i text end in
    record {
      digits = few-digits text some few (sym (rw gone at digits));
      value = sym (rw gone at value);
      low = few-under n i low (omega (arith, few, within));
    }
