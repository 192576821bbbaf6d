-- The columns so far, with those of the aggregates that are left, are those of all.
use Rattle.std.proofs.Common.{◌≡◌, ◌≤◌, ◌++◌, ◌+◌, ◌*◌, drop, map}
use Rattle.au_plain.specs.PTerms.{pterm}
use Rattle.au_rwgroup.specs.GroupPlan.{each_member_columns}
use Rattle.au_rwgroup.specs.JoinedPlaces.{places_of}
use Rattle.au_rwgroup.proofs.member_columns.push_each.Given as goal

abbrev pub invariant-loop-agg : goal.invariant-loop-agg
invariant-loop-agg l = record {
  columns : map pterm l.columns.items ++ each_member_columns (places_of l.joined) l.kept l.value (drop l.agg-index l.aggs) ≡ map pterm l.fn.columns.items ++ each_member_columns (places_of l.joined) l.fn.from (l.joined.fold + 3 * l.joined.keys + 2) l.aggs;
  place : l.kept ≤ l.fn.from + 2 * l.agg-index;
  value : l.value ≡ l.joined.fold + 3 * l.joined.keys + 2 + 5 * l.agg-index;
}
