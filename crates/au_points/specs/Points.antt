-- Grouping by points, which may stand in the place of Group and Distinct: one row for each distinct list of guessed
-- keys, whose keys are these, and for the groups whose keys nobody guessed the rows that Group gives of the rows with
-- unsure keys.
use Rattle.std.specs.Prelude.{ℕ, Bool, not, ◌&&◌, List, [], ◌++◌, map, flat_map, take, filter, nat_le, ℤ}
use Rattle.std.specs.List.{list_any}
use Rattle.au_value.specs.declared.value.Value.{Value}
use Rattle.au_value.specs.Ranges.{Span, certain, all_overlap, all_certain, guesses}
use Rattle.au_annot.specs.Triples.{Counts, counts}
use Rattle.au_algebra.specs.declared.query.Agg.{Agg}
use Rattle.au_algebra.specs.Trees.{Tree}
use Rattle.au_algebra.specs.Entries.{entry}
use Rattle.au_algebra.specs.Fits.{agg_numbers, grouping_numbers, triple_numbers}
use Rattle.au_algebra.specs.Lists.{same_row}
use Rattle.au_algebra.specs.Bounded.{RangeRow, Bounded, Grouped, aggregate, some_of, guessed_keys, group_by, product, union}
use Rattle.au_points.specs.Groupings.{Grouping, bounded_with, answer_with}

-- ---- the groups with guessed keys

-- the points: the distinct lists of guessed keys, as first seen
abbrev pub points_of : (List Span → List Span) → Bounded → List (List Value)
points_of keys rows = guessed_keys keys rows

-- the rows at a point: those that guess it belong, those whose keys hold it are members, and those of them whose keys
-- are all certain are certain members
abbrev pub at_point : (List Span → List Span) → Bounded → List Value → Grouped
at_point keys rows point =
    let belonging = filter (λ r. same_row point (guesses (keys r.cells))) rows in
    let box = map certain point in
    record {
      belonging = belonging;
      box = box;
      members = filter (λ r. all_overlap (keys r.cells) box) rows;
      is_certain_member = λ r. all_certain (keys r.cells);
      is_guessed = list_any (λ r. nat_le 1 r.annot.guess) belonging;
    }

-- the triple of a point: in each world there is one group with its keys at most
abbrev pub point_counts : (List Span → List Span) → Bounded → Counts
point_counts keys belonging =
    counts
    (some_of (λ r. all_certain (keys r.cells) && nat_le 1 r.annot.least) belonging)
    (some_of (λ r. nat_le 1 r.annot.guess) belonging)
    1

-- the output of a point
abbrev pub point_output : (List Span → List Span) → List Agg → Bounded → List Value → RangeRow
point_output keys aggs rows point =
    let g = at_point keys rows point in
    entry (g.box ++ map (aggregate g) aggs) (point_counts keys g.belonging)

abbrev pub point_outputs : (List Span → List Span) → List Agg → Bounded → Bounded
point_outputs keys aggs rows = map (point_output keys aggs rows) (points_of keys rows)

-- ---- the groups whose keys nobody guessed

-- the rows whose keys are not all certain: a group with keys that nobody guessed has no other rows
abbrev pub unsure_rows : (List Span → List Span) → Bounded → Bounded
unsure_rows keys rows = filter (λ r. not (all_certain (keys r.cells))) rows

-- a row of which no copy is certain or guessed
abbrev pub possible_row : RangeRow → RangeRow
possible_row r = entry r.cells (counts 0 0 r.annot.most)

-- the rows of these groups
abbrev pub other_rows : (List Span → List Span) → Bounded → Bounded
other_rows keys rows = map possible_row (unsure_rows keys rows)

-- their outputs: what Group gives of these rows alone
abbrev pub other_outputs : (List Span → List Span) → List Agg → Bounded → Bounded
other_outputs keys aggs rows = group_by keys aggs (other_rows keys rows)

-- ---- the operators

abbrev pub group_by_points : (List Span → List Span) → List Agg → Bounded → Bounded
group_by_points keys aggs rows = union (point_outputs keys aggs rows) (other_outputs keys aggs rows)

-- the numbers of the points' aggregates, of the other outputs' aggregates, and of all triples
abbrev pub point_numbers : (List Span → List Span) → List Agg → Bounded → List ℤ
point_numbers keys aggs rows = flat_map (λ point. flat_map (agg_numbers (at_point keys rows point)) aggs) (points_of keys rows)

abbrev pub numbers_by_points : (List Span → List Span) → List Agg → Bounded → List ℤ
numbers_by_points keys aggs rows =
    point_numbers keys aggs rows
    ++ (grouping_numbers keys aggs (other_rows keys rows) ++ triple_numbers (group_by_points keys aggs rows))

-- the groups by the leading columns
abbrev pub group_points : ℕ → List Agg → Bounded → Bounded
group_points keys aggs rows = group_by_points (take keys) aggs rows

-- the groups by all columns, with no aggregate
abbrev pub distinct_points : Bounded → Bounded
distinct_points rows = group_by_points (λ cells. cells) [] rows

-- both, to stand in the place of Group and Distinct
abbrev pub by_points : Grouping
by_points = record {
  groups = group_points;
  distinct_of = distinct_points;
  groups_numbers = λ keys aggs rows. numbers_by_points (take keys) aggs rows;
  distinct_numbers = λ rows. triple_numbers (distinct_points rows);
}

-- ---- queries

-- the bounded relation of a tree with these in their place
abbrev pub bounded_by_points : Tree → List Bounded → Bounded
bounded_by_points q ts = bounded_with product by_points q ts

-- and its answer, combined where that is asked for
abbrev pub answer_by_points : Bool → Tree → List Bounded → Bounded
answer_by_points combined q ts = answer_with product by_points combined q ts
