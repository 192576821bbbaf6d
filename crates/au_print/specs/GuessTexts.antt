-- The text of an answer over the guess world: each row of values once, in order, behind the number of its copies.
-- It is given by rows with counts, of which equal rows stand for one row, or by the rows of a world themselves.
use Rattle.std.specs.Prelude.{ℕ, Bool, List, ◌∷◌, ◌++◌, map, flat_map, codes, decimal}
use Rattle.std.specs.List.{list_all}
use Rattle.std.specs.Ordering.{is_le}
use Rattle.std.specs.Cmp.Lexicographic.{slice_cmp}
use Rattle.au_value.specs.declared.kinds.Kind.{Kind}
use Rattle.au_value.specs.declared.value.Value.{Value}
use Rattle.au_value.specs.Order.{order}
use Rattle.au_value.specs.Lists.{distinct}
use Rattle.au_annot.specs.Counts.{count_fits}
use Rattle.au_algebra.specs.Counted.{CountedRow, occurring, count_of}
use Rattle.au_algebra.specs.Entries.{entry}
use Rattle.au_algebra.specs.Lists.{same_row, copies, sorted_by}
use Rattle.au_algebra.specs.Ordinary.{Rows}
use Rattle.au_print.specs.Texts.{value_texts, record_text}

-- one row may stand before another, by values from the first column on
abbrev pub values_at_most : List Value → List Value → Bool
values_at_most v w = is_le (slice_cmp order v w)

-- the rows in order
abbrev pub in_order : Rows → Rows
in_order rows = sorted_by values_at_most rows

-- each row of values once and in order, with the sum of its counts
abbrev pub counted : List CountedRow → List CountedRow
counted rows = map (λ v. entry v (count_of rows v)) (in_order (distinct same_row (map (λ r. r.cells) rows)))

-- the rows of a guess, of which none has the count 0
abbrev pub guess_rows : List CountedRow → List CountedRow
guess_rows rows = counted (occurring rows)

-- each row of a world, once and in order, with the number of its copies
abbrev pub world_rows : Rows → List CountedRow
world_rows world = map (λ v. entry v (copies v world)) (in_order (distinct same_row world))

-- whether each count of these rows is at most 2^127-1
abbrev pub counts_fit : List CountedRow → Bool
counts_fit rows = list_all (λ r. count_fits r.annot) rows

-- a record of the names, and one of the count and the values for each row, in columns of these kinds
abbrev pub counted_fields : List Kind → CountedRow → List (List ℕ)
counted_fields kinds r = decimal r.annot ∷ value_texts kinds r.cells

abbrev pub counted_text : List (List ℕ) → List Kind → List CountedRow → List ℕ
counted_text names kinds rows =
    record_text (codes "row" ∷ names) ++ flat_map (λ r. record_text (counted_fields kinds r)) rows

abbrev pub guess_text : List (List ℕ) → List Kind → List CountedRow → List ℕ
guess_text names kinds rows = counted_text names kinds (guess_rows rows)

abbrev pub world_text : List (List ℕ) → List Kind → Rows → List ℕ
world_text names kinds world = counted_text names kinds (world_rows world)
