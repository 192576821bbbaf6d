-- The sums of the rows by what they leave when they are divided by two.
use Rattle.std.specs.Prelude.{◌≡◌, ◌%◌, ◌^◌, ◌<◌, ◌||◌, ℕ, ℤ, pos, Bool, List, if◌then◌else◌, map, nat_eq}
use Rattle.au_value.specs.Adding.{Sum}
use Rattle.au_evaltests.specs.Summed.{summed, too_large}

-- a row that leaves this, and 0 in the place of another one
abbrev pub term_of : ℕ → ℕ → ℤ
term_of rest x = if nat_eq (x % 2) rest then pos x else pos 0

abbrev pub terms : ℕ → List ℕ → List ℤ
terms rest xs = map (term_of rest) xs

-- the sums are those of the even rows and of the odd ones
pub record AreSums (even odd : Sum) (xs : List ℕ) : Type 0 where
  pub even_rows : even ≡ summed (terms 0 xs)
  pub odd_rows : odd ≡ summed (terms 1 xs)
  pub even_fits : even.magnitude < 2 ^ 127
  pub odd_fits : odd.magnitude < 2 ^ 127

-- one of the two leaves the range
abbrev pub either_large : List ℕ → Bool
either_large xs = too_large (terms 0 xs) || too_large (terms 1 xs)
