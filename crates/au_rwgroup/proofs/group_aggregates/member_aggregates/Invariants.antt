-- The aggregates so far, with those that are left, are all.
use Rattle.std.proofs.Common.{◌≡◌, ◌++◌, ◌+◌, ◌*◌, drop}
use Rattle.au_rwgroup.specs.GroupPlan.{all_member_aggs}
use Rattle.au_rwgroup.proofs.group_aggregates.member_aggregates.Given as goal

abbrev pub invariant-loop-agg : goal.invariant-loop-agg
invariant-loop-agg l = record {
  aggs : l.all.items ++ all_member_aggs l.place (drop l.agg-index l.aggs) ≡ all_member_aggs l.fn.from l.aggs;
  place : l.place ≡ l.fn.from + 4 * l.agg-index;
}
