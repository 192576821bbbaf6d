-- Counts are natural numbers with their own sum, product and order; a program's counts lie below 2^127.
-- The sum of two of them may leave that range, and is a count all the same.
use Rattle.std.specs.Prelude.{ℕ, ◌^◌, Bool, nat_lt}

-- whether a count exceeds 2^127-1 in no way
abbrev pub count_fits : ℕ → Bool
count_fits n = nat_lt n (2 ^ 127)
