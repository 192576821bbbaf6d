-- Rows of values with counts,
-- and the lists of rows that they stand for.
use Rattle.std.specs.Prelude.{◌≡◌, ℕ, ◌==◌, not, List, filter, map, sum_by}
use Rattle.au_value.specs.declared.value.Value.{Value}
use Rattle.au_algebra.specs.Entries.{Entry, entry}
use Rattle.au_algebra.specs.Lists.{same_row, copies}
use Rattle.au_algebra.specs.Ordinary.{Rows}

-- a row of values with a count
abbrev pub CountedRow : Type 0
CountedRow = Entry Value ℕ

-- the rows with a count that is not 0
abbrev pub occurring : List CountedRow → List CountedRow
occurring rows = filter (λ r. not (r.annot == 0)) rows

-- the sum of the counts of the rows with these values
abbrev pub count_of : List CountedRow → List Value → ℕ
count_of rows values = sum_by (λ r. r.annot) (filter (λ r. same_row values r.cells) rows)

-- the counts of each row of values add up to its copies in the list
abbrev pub StandsFor : List CountedRow → Rows → Type 0
StandsFor rows world = (v : List Value) → copies v world ≡ count_of rows v

-- each row of a list, once
abbrev pub ones : Rows → List CountedRow
ones world = map (λ row. entry row 1) world
