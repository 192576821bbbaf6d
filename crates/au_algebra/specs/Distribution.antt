-- How a bounded relation bounds a list of rows, and how often it guesses a row
-- (Feng, Huber, Glavic, Kennedy, SIGMOD 2021: tuple matching, here over single copies).
use Rattle.std.specs.Prelude.{ℕ, ◌+◌, Bool, true, false, ◌&&◌, IsTrue, List, [], ◌∷◌, Option, Some, None, nat_le, nat_eq, slice_get, count_by}
use Rattle.std.specs.Cmp.Lexicographic.{pointwise}
use Rattle.au_value.specs.declared.value.Value.{Value}
use Rattle.au_value.specs.Ranges.{all_hold}
use Rattle.au_algebra.specs.Bounded.{RangeRow, Bounded, guessing, guess_of}
use Rattle.au_algebra.specs.Ordinary.{Rows}

-- whether there is a row, and it holds the values
abbrev pub row_holds : Option RangeRow → List Value → Bool
row_holds None values = false
row_holds (Some r) values = all_hold r.cells values

-- whether each row from this number on takes between its least and its most copies
abbrev pub takes_enough : ℕ → Bounded → List ℕ → Bool
takes_enough j [] f = true
takes_enough j (r ∷ rows) f =
    (nat_le r.annot.least (count_by (nat_eq j) f) && nat_le (count_by (nat_eq j) f) r.annot.most) && takes_enough (j + 1) rows f

-- whether f gives each copy of the list the number of a row that holds it, and each row enough copies
abbrev pub distributes : Bounded → Rows → List ℕ → Bool
distributes rows copies f = pointwise (λ j values. row_holds (slice_get rows j) values) f copies && takes_enough 0 rows f

-- there is a distribution of the list over the relation
pub record Bounds (rows : Bounded) (copies : Rows) : Type 0 where
  pub places : List ℕ
  pub distributed : IsTrue (distributes rows copies places)

-- how often the relation guesses a row
abbrev pub guess_count : Bounded → List Value → ℕ
guess_count rows values = guess_of (guessing values rows)
