-- How the rows by points stand beside those that Group gives.
use Rattle.std.specs.Prelude.{◌≡◌, ℕ, ◌≤◌, ◌<◌, IsTrue, List, Some, length, take}
use Rattle.std.specs.List.{AllByRecursion, AllZip}
use Rattle.au_value.specs.declared.kinds.Kind.{Kind}
use Rattle.au_value.specs.declared.value.Value.{Value}
use Rattle.au_value.specs.Order.{at_most}
use Rattle.au_value.specs.Ranges.{Span, all_certain}
use Rattle.au_algebra.specs.declared.query.Agg.{Agg}
use Rattle.au_algebra.specs.Bounded.{RangeRow, Bounded, output, group}
use Rattle.au_algebra.specs.Distribution.{guess_count}
use Rattle.au_algebra.specs.Laws.{IsRelation}
use Rattle.au_algebra.specs.Typing.{group_kinds}
use Rattle.au_points.specs.Points.{at_point, point_output, point_outputs, other_outputs, group_points}

-- ---- narrower

-- the first range lies within the second
pub record Inside (r s : Span) : Type 0 where
  pub lo : IsTrue (at_most s.lo r.lo)
  pub hi : IsTrue (at_most r.hi s.hi)

-- each range lies within the other row's, and the row stands for no more copies, and for as many at least and in the guess world
pub record RowWithin (r s : RangeRow) : Type 0 where
  pub cells : AllZip Inside r.cells s.cells
  pub least : r.annot.least ≡ s.annot.least
  pub guess : r.annot.guess ≡ s.annot.guess
  pub most : r.annot.most ≤ s.annot.most

-- Each point's row lies within the row of Group for these keys.
abbrev pub PointsLieWithin : Type 0
PointsLieWithin =
    (ks js : List Kind) (keys : ℕ) (aggs : List Agg) (rows : Bounded) →
    group_kinds keys aggs ks ≡ Some js → IsRelation ks rows →
    AllZip RowWithin (point_outputs (take keys) aggs rows) (group keys aggs rows)

-- ---- the same

-- the keys of each row are certain
abbrev pub CertainKeys : ℕ → Bounded → Type 0
CertainKeys keys rows = AllByRecursion (λ r. IsTrue (all_certain (take keys r.cells))) rows

-- Where the keys of all rows that guess a point are certain, its row is Group's own.
abbrev pub SameWhereCertain : Type 0
SameWhereCertain =
    (ks : List Kind) (keys : ℕ) (aggs : List Agg) (rows : Bounded) (point : List Value) →
    IsRelation ks rows → 0 < length (at_point (take keys) rows point).belonging →
    CertainKeys keys (at_point (take keys) rows point).belonging →
    point_output (take keys) aggs rows point ≡ output (take keys) aggs rows point

-- Where the keys of all rows are certain, grouping by points is Group.
abbrev pub SameWhereAllCertain : Type 0
SameWhereAllCertain =
    (ks : List Kind) (keys : ℕ) (aggs : List Agg) (rows : Bounded) →
    IsRelation ks rows → CertainKeys keys rows → group_points keys aggs rows ≡ group keys aggs rows

-- Each row of values is guessed as often by points as by the hulls of keys.
abbrev pub PointsGuessAlike : Type 0
PointsGuessAlike =
    (ks js : List Kind) (keys : ℕ) (aggs : List Agg) (rows : Bounded) (v : List Value) →
    group_kinds keys aggs ks ≡ Some js → IsRelation ks rows →
    guess_count (group_points keys aggs rows) v ≡ guess_count (group keys aggs rows) v

-- ---- the other groups

-- Of the groups whose keys nobody guessed none is certain and none is guessed.
abbrev pub OthersArePossible : Type 0
OthersArePossible =
    (keys : List Span → List Span) (aggs : List Agg) (rows : Bounded) →
    AllByRecursion (λ r. (r.annot.least ≡ 0) × (r.annot.guess ≡ 0)) (other_outputs keys aggs rows)
