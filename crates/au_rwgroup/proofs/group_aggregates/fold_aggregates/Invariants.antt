-- The aggregates so far, with those that are left, are all.
use Rattle.std.proofs.Common.{◌≡◌, ◌++◌, drop}
use Rattle.au_rwgroup.specs.Folds.{fold_aggs}
use Rattle.au_rwgroup.proofs.group_aggregates.fold_aggregates.Given as goal

abbrev pub invariant-loop-agg : goal.invariant-loop-agg
invariant-loop-agg l = l.all.items ++ fold_aggs l.place (drop l.agg-index l.aggs) ≡ fold_aggs l.fn.from l.aggs
