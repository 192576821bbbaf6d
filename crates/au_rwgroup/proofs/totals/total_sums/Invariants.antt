-- The sums so far, with those of the aggregates that are left, are those of all.
use Rattle.std.proofs.Common.{◌≡◌, ◌++◌, drop}
use Rattle.au_rwgroup.specs.Totals.{total_sums}
use Rattle.au_rwgroup.proofs.totals.total_sums.Given as goal

abbrev pub invariant-loop-agg : goal.invariant-loop-agg
invariant-loop-agg l = l.sums.items ++ total_sums l.at.first (drop l._agg-index l.aggs) ≡ total_sums 0 l.aggs
