-- Numbers of so few digits that 64 bits hold them.
use Rattle.std.specs.Prelude.{◌≡◌, ℕ, ◌^◌, ◌<◌, true, List}
use Rattle.std.specs.Str.Parse.{digits_value}
use Rattle.au_value.specs.Numeral.{is_digits}

-- a text is digits that write this number, which has at most 18 of them
pub record AreFew (text : List ℕ) (n : ℕ) : Type 0 where
  pub digits : is_digits text ≡ true
  pub value : digits_value 10 text ≡ n
  pub low : n < 10 ^ 18
