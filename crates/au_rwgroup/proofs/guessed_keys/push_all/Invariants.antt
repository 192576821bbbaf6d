-- The aggregates so far, with those that are left, are all.
use Rattle.std.proofs.Common.{◌≡◌, ◌++◌}
use Rattle.std.specs.Vec.Iter.{into_iter_items}
use Rattle.au_rwgroup.proofs.guessed_keys.push_all.Given as goal

abbrev pub invariant-loop-agg : goal.invariant-loop-agg
invariant-loop-agg l = l.aggs.items ++ into_iter_items l.agg-iterator ≡ l.fn.aggs.items ++ l.fn.more.items
