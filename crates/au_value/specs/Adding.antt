-- Exact sums. A sum keeps the magnitudes of its terms, added, beside its total: where these stay below 2^127, so does
-- the total of any of the terms.
use Rattle.std.specs.Prelude.{ℕ, ◌+◌, ◌^◌, ◌<◌, ◌≤◌, ℤ, pos, ◌+ℤ◌, unsigned_abs}

pub record Sum : Type 0 where
  pub total : ℤ
  pub magnitude : ℕ

abbrev pub sum_of : ℤ → ℕ → Sum
sum_of total magnitude = record { total = total; magnitude = magnitude }

-- the sum of no terms
abbrev pub no_terms : Sum
no_terms = sum_of (pos 0) 0

-- a sum and one more term
abbrev pub with_term : Sum → ℤ → Sum
with_term s term = sum_of (s.total +ℤ term) (s.magnitude + unsigned_abs term)

-- the total is no further from 0 than the magnitudes, and these are in the range
pub record IsSum (s : Sum) : Type 0 where
  pub bounded : unsigned_abs s.total ≤ s.magnitude
  pub fits : s.magnitude < 2 ^ 127
