-- When an output can be made,
-- and whether its numbers lie in the range.
use Rattle.std.specs.Prelude.{◌≡◌, ◌<◌, Bool, true, ◌&&◌, List, ◌++◌, Some, length, map, flat_map}
use Rattle.std.specs.List.{AllByRecursion, list_all}
use Rattle.au_value.specs.declared.kinds.Kind.{Kind}
use Rattle.au_value.specs.Ranges.{IsRange}
use Rattle.au_value.specs.Numeral.{is_i128}
use Rattle.au_annot.specs.Triples.{IsTriple}
use Rattle.au_annot.specs.Counts.{count_fits}
use Rattle.au_algebra.specs.declared.query.Agg.{Agg}
use Rattle.au_algebra.specs.Bounded.{RangeRow, Bounded, Grouped, aggregate, all_rows, group_by, group_counts}
use Rattle.au_algebra.specs.Entries.{entry}
use Rattle.au_algebra.specs.Fits.{agg_numbers, grouping_numbers, triple_numbers}
use Rattle.au_algebra.specs.Typing.{agg_kind, all_kinds, is_sum}
use Rattle.au_kfull.specs.declared.keys.Keys.{Keys}
use Rattle.au_kfull.specs.Extremes.{IsPossible}
use Rattle.au_kfull.specs.Groups.{IsGroupOf, grouped_with}
use Rattle.au_kfull.specs.Keys.{keys_of}

-- the aggregate is possible, and a range
pub record CanAggregate (g : Grouped) (agg : Agg) : Type 0 where
  pub possible : IsPossible g agg
  pub ordered : IsRange (aggregate g agg)

-- some rows belong, the counts are a triple, and each aggregate can be made
pub record IsOutput (keys : Keys) (aggs : List Agg) (rows belonging : Bounded) : Type 0 where
  pub some : 0 < length belonging
  pub triple : IsTriple (group_counts (keys_of keys) belonging)
  pub aggregates : AllByRecursion (CanAggregate (grouped_with keys rows belonging)) aggs

-- these rows are a group, which has an output
pub record IsOutputReady (keys : Keys) (aggs : List Agg) (rows belonging : Bounded) : Type 0 where
  pub group : IsGroupOf keys rows belonging
  pub out : IsOutput keys aggs rows belonging

-- the numbers of the aggregates, and the greatest count
abbrev pub output_fits : Keys → List Agg → Bounded → Bounded → Bool
output_fits keys aggs rows belonging =
    count_fits (group_counts (keys_of keys) belonging).most
    && list_all is_i128 (flat_map (agg_numbers (grouped_with keys rows belonging)) aggs)

-- the output to which some rows belong, and whether its numbers lie in the range
unfoldable pub made_output : Keys → List Agg → Bounded → Bounded → RangeRow
made_output keys aggs rows belonging =
    let g = grouped_with keys rows belonging in
    entry (g.box ++ map (aggregate g) aggs) (group_counts (keys_of keys) belonging)

unfoldable pub made_fits : Keys → List Agg → Bounded → Bounded → Bool
made_fits keys aggs rows belonging = output_fits keys aggs rows belonging

-- the rows fit keys and aggregates: each aggregate has a kind
pub record CanGroup (ks : List Kind) (aggs : List Agg) : Type 0 where
  pub made : List Kind
  pub typed : all_kinds (map (agg_kind ks) aggs) ≡ Some made

-- the numbers of a group, those of its triples included
abbrev pub group_fits : Keys → List Agg → Bounded → Bool
group_fits keys aggs rows = list_all is_i128 (grouping_numbers (keys_of keys) aggs rows ++ triple_numbers (group_by (keys_of keys) aggs rows))

-- the rows fit sums over all: each aggregate is a sum, and has a kind
pub record CanTotal (ks : List Kind) (aggs : List Agg) : Type 0 where
  pub made : List Kind
  pub typed : all_kinds (map (agg_kind ks) aggs) ≡ Some made
  pub sums : list_all is_sum aggs ≡ true

-- the numbers of sums over all rows
abbrev pub total_fits : List Agg → Bounded → Bool
total_fits aggs rows = list_all is_i128 (flat_map (agg_numbers (all_rows rows)) aggs)
