-- The normal form of relations over cells: equal rows merged, in order.
use Rattle.std.specs.Prelude.{◌≡◌, Bool, ◌&&◌, List, map, filter, ℤ}
use Rattle.std.specs.List.{AllByRecursion}
use Rattle.std.specs.declared.cmp.Ordering.{Ordering}
use Rattle.std.specs.Ordering.{int_cmp, is_le, ordering_then}
use Rattle.std.specs.Cmp.Lexicographic.{slice_cmp}
use Rattle.au_value.specs.declared.kinds.Kind.{Kind}
use Rattle.au_value.specs.Order.{kind_of}
use Rattle.au_value.specs.Ranges.{Span, guesses, lower_ends, upper_ends}
use Rattle.au_value.specs.Lists.{distinct}
use Rattle.au_annot.specs.Triples.{Counts, total_counts}
use Rattle.au_algebra.specs.Entries.{Entry, entry}
use Rattle.au_algebra.specs.Lists.{sorted_by}
use Rattle.au_algebra.specs.Bounded.{RangeRow, Bounded, normal}
use Rattle.au_codes.specs.Codes.{Code, KeepsOrder, Cells, code, KnowsRow}
use Rattle.au_codes.specs.CellMeaning.{same_cells}

-- a range of cells, a list of such with a triple, and a relation of these
pub record CellSpan : Type 0 where
  pub lo : ℤ
  pub sg : ℤ
  pub hi : ℤ

abbrev pub CellEntry : Type 0
CellEntry = Entry CellSpan Counts

-- the cells of a range, of a row and of a relation
abbrev pub coded_span : Code → Span → CellSpan
coded_span c r = record { lo = code c r.lo; sg = code c r.sg; hi = code c r.hi }

abbrev pub coded_entry : Code → RangeRow → CellEntry
coded_entry c r = entry (map (coded_span c) r.cells) r.annot

abbrev pub coded_relation : Code → Bounded → List CellEntry
coded_relation c rows = map (coded_entry c) rows

-- the guesses, the lower and the upper ends of some ranges
abbrev pub guess_cells : List CellSpan → Cells
guess_cells xs = map (λ r. r.sg) xs

abbrev pub lower_cells : List CellSpan → Cells
lower_cells xs = map (λ r. r.lo) xs

abbrev pub upper_cells : List CellSpan → Cells
upper_cells xs = map (λ r. r.hi) xs

-- the order of lists of ranges, and whether two are equal, as that of values
abbrev pub spans_order : List CellSpan → List CellSpan → Ordering
spans_order xs ys =
    ordering_then (slice_cmp int_cmp (guess_cells xs) (guess_cells ys))
    (ordering_then (slice_cmp int_cmp (lower_cells xs) (lower_cells ys)) (slice_cmp int_cmp (upper_cells xs) (upper_cells ys)))

abbrev pub same_spans : List CellSpan → List CellSpan → Bool
same_spans xs ys =
    same_cells (guess_cells xs) (guess_cells ys) && (same_cells (lower_cells xs) (lower_cells ys) && same_cells (upper_cells xs) (upper_cells ys))

-- the rows with equal ranges in one, with the sum of their triples
abbrev pub merged_cells : List CellEntry → List CellEntry
merged_cells rows =
    map (λ spans. entry spans (total_counts (map (λ r. r.annot) (filter (λ r. same_spans spans r.cells) rows))))
    (distinct same_spans (map (λ r. r.cells) rows))

-- one row may stand before another
abbrev pub entry_at_most : CellEntry → CellEntry → Bool
entry_at_most r s = is_le (spans_order r.cells s.cells)

-- equal rows merged, in order
abbrev pub cells_normal : List CellEntry → List CellEntry
cells_normal rows = sorted_by entry_at_most (merged_cells rows)

-- ranges of these kinds whose texts the code knows
pub record KnowsSpans (c : Code) (ks : List Kind) (xs : List Span) : Type 0 where
  pub guess_kinds : map kind_of (guesses xs) ≡ ks
  pub lower_kinds : map kind_of (lower_ends xs) ≡ ks
  pub upper_kinds : map kind_of (upper_ends xs) ≡ ks
  pub guesses_known : KnowsRow c (guesses xs)
  pub lowers_known : KnowsRow c (lower_ends xs)
  pub uppers_known : KnowsRow c (upper_ends xs)

-- the normal form over cells is the cells of the normal form
abbrev pub CellsKeepNormal : Type 0
CellsKeepNormal =
    (c : Code) → KeepsOrder c →
    (ks : List Kind) (rows : Bounded) →
    AllByRecursion (λ r. KnowsSpans c ks r.cells) rows →
    cells_normal (coded_relation c rows) ≡ coded_relation c (normal rows)
