-- Tables of values with counts: their kinds,
-- and the bounded relation of each.
use Rattle.std.specs.Prelude.{List, map}
use Rattle.au_value.specs.declared.kinds.Kind.{Kind}
use Rattle.au_value.specs.Ranges.{certain}
use Rattle.au_annot.specs.Triples.{counts}
use Rattle.au_expr.specs.Ordinary.{IsKind}
use Rattle.au_algebra.specs.Bounded.{RangeRow, Bounded}
use Rattle.au_algebra.specs.Counted.{CountedRow, occurring}
use Rattle.au_algebra.specs.Entries.{entry}
use Rattle.au_keval.specs.Reading as reading

-- rows of values of these kinds
abbrev pub IsCountedTable : List Kind → List CountedRow → Type 0
IsCountedTable ks rows = reading.IsRelationOver IsKind (λ n. Unit {0}) ks rows

-- each value is a range of its own, and the count is least, guess and most
abbrev pub embedded_row : CountedRow → RangeRow
embedded_row r = entry (map certain r.cells) (counts r.annot r.annot r.annot)

-- the rows of which there is a copy
abbrev pub embedded : List CountedRow → Bounded
embedded rows = map embedded_row (occurring rows)
