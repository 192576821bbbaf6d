-- Keys of several numbers that are packed into one. Each number but the last has so many bits, and the last one all that are
-- left. Below zero a number stands for itself and zeros, so that no two are the same key.
use Rattle.std.specs.Prelude.{◌≡◌, ℕ, zero, suc, [], ◌∷◌, ◌^◌, ◌/◌, ◌%◌, nat_lt, ℤ, pos, negsuc, if◌then◌else◌}
use Rattle.std.specs.Int.{w128}
use Rattle.std.specs.Int.RustNames.{FitsSigned}
use Rattle.au_codes.specs.Codes.{Cells}

-- the bits of each number of a key that has so many behind the first
abbrev pub width_of : ℕ → ℕ
width_of deep = if nat_lt deep 12 then 126 / suc deep else 10

-- the first number of a key, and what is left
abbrev pub low_part : ℕ → ℤ → ℤ
low_part w (pos a) = pos (a % 2 ^ w)
low_part w (negsuc a) = negsuc a

abbrev pub high_part : ℕ → ℤ → ℤ
high_part w (pos a) = pos (a / 2 ^ w)
high_part w (negsuc a) = pos 0

-- the numbers of a key that has so many behind the first
abbrev pub unpacked : ℕ → ℕ → ℤ → Cells
unpacked w zero p = p ∷ []
unpacked w (suc n) p = low_part w p ∷ unpacked w n (high_part w p)

-- the key of which these are the numbers, if there is one
abbrev pub IsPackedOf : ℕ → Cells → ℤ → Type 0
IsPackedOf w key p = (n : ℕ) (q : ℤ) → FitsSigned w128 q → unpacked w n q ≡ key → p ≡ q
