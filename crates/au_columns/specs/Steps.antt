-- Steps: what an expression makes of the numbers of two of its parts.
-- Arithmetic makes a number, and a test a flag.
use Rattle.std.specs.Prelude.{◌≡◌, ◌<◌, ℕ, true, ◌&&◌, ◌||◌, List, length, get_or, ℤ, pos, ◌+ℤ◌, ◌-ℤ◌, ◌*ℤ◌, if◌then◌else◌}
use Rattle.au_value.specs.Numeral.{is_i128}
use Rattle.au_codes.specs.Codes.{flag}
use Rattle.au_codes.specs.CellMeaning.{truth, numbers_compare}
use Rattle.au_codes.specs.Careful.{extreme_number}
use Rattle.au_columns.specs.declared.step.Arithmetic.{Arithmetic}
use Rattle.au_columns.specs.declared.step.Arithmetic.TheVariants.{Add, Subtract, Multiply, Extreme}
use Rattle.au_columns.specs.declared.step.Test.{Test}
use Rattle.au_columns.specs.declared.step.Test.TheVariants.{Compare, And, Or}

-- the number that arithmetic makes of two
abbrev pub worked : Arithmetic → ℤ → ℤ → ℤ
worked Add x y = x +ℤ y
worked Subtract x y = x -ℤ y
worked Multiply x y = x *ℤ y
worked (Extreme how) x y = extreme_number how x y

-- the flag that a test makes of two numbers
abbrev pub tested : Test → ℤ → ℤ → ℤ
tested (Compare how) x y = flag (numbers_compare how x y)
tested And x y = flag (truth x && truth y)
tested Or x y = flag (truth x || truth y)

-- the number at a place, and 0 past the last
abbrev pub number_at : List ℤ → ℕ → ℤ
number_at zs i = get_or zs i (pos 0)

-- each number of the third list is made of those of the first two at its place, as far as n
abbrev pub AreWorked : Arithmetic → ℕ → List ℤ → List ℤ → List ℤ → Type 0
AreWorked how n xs ys zs = (i : ℕ) → i < n → number_at zs i ≡ worked how (number_at xs i) (number_at ys i)

abbrev pub AreTested : Test → ℕ → List ℤ → List ℤ → List ℤ → Type 0
AreTested how n xs ys zs = (i : ℕ) → i < n → number_at zs i ≡ tested how (number_at xs i) (number_at ys i)

-- each is the second list's where the first's is a true flag, and else the third's
abbrev pub AreChosen : ℕ → List ℤ → List ℤ → List ℤ → List ℤ → Type 0
AreChosen n cs xs ys zs = (i : ℕ) → i < n → number_at zs i ≡ (if truth (number_at cs i) then number_at xs i else number_at ys i)

-- each place is below n
abbrev pub AreBelow : List ℕ → ℕ → Type 0
AreBelow places n = (k : ℕ) → k < length places → get_or places k 0 < n

-- each number is the one of the place that stands there, as far as n
abbrev pub AreGathered : ℕ → List ℤ → List ℕ → List ℤ → Type 0
AreGathered n xs places zs = (i : ℕ) → i < n → number_at zs i ≡ number_at xs (get_or places i 0)

-- each number lies in the range of 128 bits
abbrev pub AllFit : List ℤ → Type 0
AllFit zs = (i : ℕ) → i < length zs → is_i128 (number_at zs i) ≡ true

-- the same for whole columns
pub record Worked (how : Arithmetic) (xs ys zs : List ℤ) : Type 0 where
  pub len : length zs ≡ length xs
  pub each : AreWorked how (length xs) xs ys zs

pub record Tested (how : Test) (xs ys zs : List ℤ) : Type 0 where
  pub len : length zs ≡ length xs
  pub each : AreTested how (length xs) xs ys zs

pub record Chosen (cs xs ys zs : List ℤ) : Type 0 where
  pub len : length zs ≡ length cs
  pub each : AreChosen (length cs) cs xs ys zs
