-- The least or the greatest of some values,
-- and what makes the least and the greatest of a column possible.
use Rattle.std.specs.Prelude.{◌≡◌, ℕ, ◌<◌, true, List, length, map}
use Rattle.std.specs.List.{AllByRecursion}
use Rattle.au_value.specs.declared.extreme.Extreme.{Extreme}
use Rattle.au_value.specs.declared.extreme.Extreme.TheVariants.{Least, Greatest}
use Rattle.au_value.specs.declared.kinds.Kind.{Kind}
use Rattle.au_value.specs.declared.value.Value.{Value}
use Rattle.au_value.specs.Ranges.{IsRangeOf}
use Rattle.au_algebra.specs.declared.query.Agg.{Agg}
use Rattle.au_algebra.specs.declared.query.Agg.TheVariants.{Sum, Min, Max}
use Rattle.au_algebra.specs.Bounded.{RangeRow, Bounded, Grouped, range_at, guessed_there}
use Rattle.au_algebra.specs.Lists.{least, greatest}
use Rattle.au_kfull.specs.declared.sums.Bound.{Bound}
use Rattle.au_kfull.specs.Groups.{end_of}

-- the least or the greatest of some values
abbrev pub extreme_of : Extreme → List Value → Value
extreme_of Least vs = least vs
extreme_of Greatest vs = greatest vs

-- the other one
abbrev pub opposite : Extreme → Extreme
opposite Least = Greatest
opposite Greatest = Least

-- one of the values of a column, row by row
abbrev pub values_at : Bound → ℕ → Bounded → List Value
values_at bound c rows = map (λ r. end_of bound (range_at c r)) rows

-- the row has the column, with a range of this kind
pub record HasColumn (k : Kind) (c : ℕ) (r : RangeRow) : Type 0 where
  pub inside : c < length r.cells
  pub range : IsRangeOf k (range_at c r)

-- rows that have the column
abbrev pub HaveColumn : Kind → ℕ → Bounded → Type 0
HaveColumn k c rows = AllByRecursion (HasColumn k c) rows

-- there are members, a guessed output has a guessed row, and the rows have the column
pub record HasExtremes (g : Grouped) (c : ℕ) : Type 0 where
  pub some : 0 < length g.members
  pub guessed : g.is_guessed ≡ true → 0 < length (guessed_there g)
  pub columns : (k : Kind) × HaveColumn k c g.members × HaveColumn k c g.belonging

-- a sum is always possible
abbrev pub IsPossible : Grouped → Agg → Type 0
IsPossible g (Sum c) = Unit {0}
IsPossible g (Min c) = HasExtremes g c
IsPossible g (Max c) = HasExtremes g c
