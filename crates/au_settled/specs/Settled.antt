-- Rows of numbers that encode a bounded relation of whole numbers, and its normal form in numbers. A row has three for
-- each column, lower end, guess and upper end, and three counts behind them.
use Rattle.std.specs.Prelude.{ℕ, zero, suc, List, ◌∷◌, map, ℤ}
use Rattle.std.specs.List.{AllByRecursion}
use Rattle.au_value.specs.declared.value.Value.{Value}
use Rattle.au_value.specs.declared.value.Value.TheVariants.{Int}
use Rattle.au_expr.specs.Ordinary.{number}
use Rattle.au_algebra.specs.Bounded.{RangeRow, Bounded, normal}
use Rattle.au_codes.specs.Codes.{Cells, CellRows}
use Rattle.au_encode.specs.Encode.{AreCounts, decode, encode_row}

-- the numbers of a row as values
abbrev pub values_of : Cells → List Value
values_of row = map (λ (z : ℤ). Int z) row

-- the relation of some rows, each with so many columns
abbrev pub relation_of : ℕ → CellRows → Bounded
relation_of c rows = decode c (map values_of rows)

-- the numbers of a row of ranges with a triple
abbrev pub numbers_of : RangeRow → Cells
numbers_of r = map number (encode_row r)

-- the normal form: rows that are equal in all but their counts are one, with the sums of these, and the rows are ordered
-- by their guesses, then by their lower ends, then by their upper ends
abbrev pub normal_rows : ℕ → CellRows → CellRows
normal_rows c rows = map numbers_of (normal (relation_of c rows))

-- behind three numbers for each of so many columns a row has three counts in order, of which the last is not 0
abbrev pub HasCounts : ℕ → Cells → Type 0
HasCounts zero row = AreCounts (values_of row)
HasCounts (suc c) (l ∷ s ∷ h ∷ row) = HasCounts c row
HasCounts (suc c) _ = ⊥

-- each row has
abbrev pub HaveCounts : ℕ → CellRows → Type 0
HaveCounts c rows = AllByRecursion (HasCounts c) rows
