-- What is kept so far, with what is left, is all.
use Rattle.std.proofs.Common.{◌≡◌, ◌++◌, drop, flat_map}
use Rattle.au_rwgroup.specs.GroupPlan.{kept_for}
use Rattle.au_rwgroup.proofs.group_aggregates.kept_aggregates.Given as goal

abbrev pub invariant-loop-agg : goal.invariant-loop-agg
invariant-loop-agg l = l.kept.items ++ flat_map kept_for (drop l.agg-index l.aggs) ≡ flat_map kept_for l.aggs
