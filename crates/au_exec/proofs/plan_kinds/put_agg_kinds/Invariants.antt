-- The kinds so far, with those of the aggregates that are left, are those of all.
use Rattle.std.proofs.Common.{◌≡◌, ◌++◌, drop, map}
use Rattle.au_exec.specs.KnownKinds.{agg_kind}
use Rattle.au_exec.proofs.plan_kinds.put_agg_kinds.Given as goal

abbrev pub invariant-loop-agg : goal.invariant-loop-agg
invariant-loop-agg l = l.made.items ++ map (agg_kind l.kinds) (drop l.agg-index l.aggs) ≡ l.initial.made.items ++ map (agg_kind l.kinds) l.aggs
