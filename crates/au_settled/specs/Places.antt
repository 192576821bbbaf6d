-- Rows by their places: the numbers by which they are ordered, and their ranges and counts.
use Rattle.std.specs.Prelude.{◌≡◌, ◌*◌, ℕ, zero, suc, List, [], ◌∷◌, ◌++◌, pos, nat_abs, get_or}
use Rattle.std.specs.declared.cmp.Ordering.{Ordering}
use Rattle.std.specs.Ordering.{int_cmp}
use Rattle.std.specs.Cmp.Lexicographic.{slice_cmp}
use Rattle.au_value.specs.declared.value.Value.TheVariants.{Int}
use Rattle.au_value.specs.Ranges.{Span, range}
use Rattle.au_annot.specs.Triples.{Counts, IsTriple, counts}
use Rattle.au_algebra.specs.Entries.{entry}
use Rattle.au_algebra.specs.Bounded.{RangeRow}
use Rattle.au_codes.specs.Codes.{Cells, CellRows}
use Rattle.au_codes.specs.CellMeaning.{cell_in, cells_kept}

-- so many places, each the third behind the one before it
abbrev pub every_third : ℕ → ℕ → List ℕ
every_third i zero = []
every_third i (suc c) = i ∷ every_third (suc (suc (suc i))) c

-- the places of the guesses, of the lower and of the upper ends
abbrev pub key_places : ℕ → List ℕ
key_places c = every_third 1 c ++ (every_third 0 c ++ every_third 2 c)

-- the order of two rows by their numbers in some places
abbrev pub cells_order : List ℕ → Cells → Cells → Ordering
cells_order places a b = slice_cmp int_cmp (cells_kept places a) (cells_kept places b)

-- some places decide the order of rows as those of all ends do
pub record Decides (c : ℕ) (rows : CellRows) (keys : List ℕ) : Type 0 where
  pub alike : (p q : ℕ) → cells_order keys (get_or rows p []) (get_or rows q []) ≡ cells_order (key_places c) (get_or rows p []) (get_or rows q [])

-- so many ranges, from a place on
abbrev pub spans_at : ℕ → ℕ → Cells → List Span
spans_at i zero row = []
spans_at i (suc c) row =
    range (Int (cell_in row i)) (Int (cell_in row (suc i))) (Int (cell_in row (suc (suc i)))) ∷ spans_at (suc (suc (suc i))) c row

-- the counts in a place and the two behind it
abbrev pub counts_at : ℕ → Cells → Counts
counts_at i row = counts (nat_abs (cell_in row i)) (nat_abs (cell_in row (suc i))) (nat_abs (cell_in row (suc (suc i))))

-- the row of a place, and one with a triple beside it
abbrev pub row_in : ℕ → CellRows → ℕ → RangeRow
row_in c rows p = entry (spans_at 0 c (get_or rows p [])) (counts_at (3 * c) (get_or rows p []))

abbrev pub placed_row : ℕ → CellRows → ℕ × Counts → RangeRow
placed_row c rows r = entry (spans_at 0 c (get_or rows r.0 [])) r.1

-- in a place and the two behind it there are counts in order
pub record AreCountsAt (i : ℕ) (row : Cells) : Type 0 where
  pub least : cell_in row i ≡ pos (nat_abs (cell_in row i))
  pub guess : cell_in row (suc i) ≡ pos (nat_abs (cell_in row (suc i)))
  pub most : cell_in row (suc (suc i)) ≡ pos (nat_abs (cell_in row (suc (suc i))))
  pub triple : IsTriple (counts_at i row)
