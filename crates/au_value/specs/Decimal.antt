-- Fixed-point numbers as texts: digits and, where a point follows them, at most as many more as the scale says.
-- The number is counted in units of 10^-scale, so it is a whole number.
use Rattle.std.specs.Prelude.{ℕ, ◌+◌, ◌-◌, ◌*◌, ◌^◌, ◌≤◌, ◌==◌, ◌&&◌, ◌||◌, ◌≡◌, ◌++◌, Bool, true, not, List, length, ℤ, pos, neg_ℤ, Option, Some, None, is_some, MatchOption, if◌then◌else◌, nat_lt, nat_le, position}
use Rattle.std.specs.List.{before_first, after_first}
use Rattle.std.specs.Str.Parse.{digits_value}
use Rattle.au_value.specs.Numeral.{is_digits, is_i128, has_minus, without_minus}

abbrev pub is_point : ℕ → Bool
is_point c = c == 46

-- whether a text has a point
abbrev pub has_point : List ℕ → Bool
has_point text = is_some (position is_point text)

-- the digits before the first point, and those behind it
abbrev pub whole_part : List ℕ → List ℕ
whole_part text = without_minus (before_first is_point text)

abbrev pub fraction : List ℕ → List ℕ
fraction text = after_first is_point text

-- whether a text is 1 to 39 digits, and as many as the scale at most
abbrev pub is_fraction : ℕ → List ℕ → Bool
is_fraction scale text = is_digits text && nat_le (length text) scale

-- whether a text is an optional `-`, digits and, where a point follows them, a fraction
abbrev pub is_decimal : ℕ → List ℕ → Bool
is_decimal scale text = is_digits (whole_part text) && (not (has_point text) || is_fraction scale (fraction text))

-- the units of a decimal without its `-`: its digits, followed by as many zeros as the fraction falls short of the scale
abbrev pub decimal_units : ℕ → List ℕ → ℕ
decimal_units scale text = digits_value 10 (whole_part text ++ fraction text) * 10 ^ (scale - length (fraction text))

abbrev pub signed_units : ℕ → List ℕ → ℤ
signed_units scale text = if has_minus text then neg_ℤ (pos (decimal_units scale text)) else pos (decimal_units scale text)

-- the units of a decimal, where they lie in the range
abbrev pub decimal_value : ℕ → List ℕ → Option ℤ
decimal_value scale text = if is_decimal scale text && is_i128 (signed_units scale text) then Some (signed_units scale text) else None

-- the answer of a step that reads a number: this one where the text is right, unless 128 bits don't hold it
abbrev pub Reads : Bool → ℕ → Option ℕ → Type 0
Reads right number result = MatchOption result (right ≡ true → 2 ^ 128 ≤ number) (λ n. (right ≡ true) × (n ≡ number))

-- the sum of two numbers, where 128 bits hold all three
abbrev pub held_sum : Option ℕ → Option ℕ → Option ℕ
held_sum (Some m) (Some n) = if nat_lt (m + n) (2 ^ 128) then Some (m + n) else None
held_sum (Some m) None = None
held_sum None b = None
