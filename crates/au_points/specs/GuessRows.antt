-- Distinct rows by points by another operator: they are the distinct rows of guesses.
use Rattle.std.specs.Prelude.{◌≡◌, List, [], map, if◌then◌else◌}
use Rattle.au_value.specs.declared.kinds.Kind.{Kind}
use Rattle.au_value.specs.Ranges.{certain, all_certain, guesses}
use Rattle.au_annot.specs.Triples.{counts}
use Rattle.au_algebra.specs.Entries.{entry}
use Rattle.au_algebra.specs.Bounded.{RangeRow, Bounded, distinct_rows}
use Rattle.au_algebra.specs.Laws.{IsRelation}
use Rattle.au_points.specs.Points.{point_outputs}

-- the guesses of a row, of which a copy is certain where all its ranges are
abbrev pub guess_row : RangeRow → RangeRow
guess_row r =
    entry (map certain (guesses r.cells))
    (counts (if all_certain r.cells then r.annot.least else 0) r.annot.guess r.annot.most)

-- Without aggregates the rows of the points are the distinct rows of these.
abbrev pub PointsAreDistinct : Type 0
PointsAreDistinct =
    (ks : List Kind) (rows : Bounded) → IsRelation ks rows →
    distinct_rows (map guess_row rows) ≡ point_outputs (λ cells. cells) [] rows
