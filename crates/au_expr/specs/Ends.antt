-- The three numbers of a range of numbers.
-- Arithmetic on ranges is done on these.
use Rattle.std.specs.Prelude.{ℤ, Result, Ok, Err, if◌then◌else◌}
use Rattle.au_value.specs.Order.{at_most}
use Rattle.au_value.specs.declared.faults.Overflow.{Overflow}
use Rattle.au_value.specs.declared.value.Value.TheVariants.{Int}
use Rattle.au_value.specs.Ranges.{Span, range}
use Rattle.au_expr.specs.declared.ends.Ends.{Ends}

-- the range of three numbers
abbrev pub int_range : Ends → Span
int_range e = range (Int e.lo) (Int e.sg) (Int e.hi)

-- the three, where each is there
abbrev pub all_three : Result ℤ Overflow → Result ℤ Overflow → Result ℤ Overflow → Result Ends Overflow
all_three (Err f) sg hi = Err f
all_three (Ok l) (Err f) hi = Err f
all_three (Ok l) (Ok s) (Err f) = Err f
all_three (Ok l) (Ok s) (Ok h) = Ok (record { lo = l; sg = s; hi = h })

-- the lesser and the greater of two numbers
abbrev pub lesser_int : ℤ → ℤ → ℤ
lesser_int a b = if at_most (Int a) (Int b) then a else b

abbrev pub greater_int : ℤ → ℤ → ℤ
greater_int a b = if at_most (Int a) (Int b) then b else a

-- the least and the greatest of the four, with the guess
abbrev pub between : ℤ → ℤ → ℤ → ℤ → ℤ → Ends
between p q r s g = record { lo = lesser_int (lesser_int p q) (lesser_int r s); sg = g; hi = greater_int (greater_int p q) (greater_int r s) }

-- the least and the greatest of the four, with the guess, where each is there
abbrev pub extremes : Result ℤ Overflow → Result ℤ Overflow → Result ℤ Overflow → Result ℤ Overflow → Result ℤ Overflow → Result Ends Overflow
extremes (Err f) q r s g = Err f
extremes (Ok p) (Err f) r s g = Err f
extremes (Ok p) (Ok q) (Err f) s g = Err f
extremes (Ok p) (Ok q) (Ok r) (Err f) g = Err f
extremes (Ok p) (Ok q) (Ok r) (Ok s) (Err f) = Err f
extremes (Ok p) (Ok q) (Ok r) (Ok s) (Ok g) =
    Ok (between p q r s g)
