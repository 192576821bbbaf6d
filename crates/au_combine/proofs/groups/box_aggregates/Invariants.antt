-- The aggregates so far, with those that are left, are all.
use Rattle.std.proofs.Common.{◌≡◌, ◌++◌}
use Rattle.std.specs.Vec.Iter.{into_iter_items}
use Rattle.au_combine.specs.Boxes.{box_aggs}
use Rattle.au_combine.proofs.groups.box_aggregates.Given as goal

abbrev pub invariant-loop-agg : goal.invariant-loop-agg
invariant-loop-agg l = l.aggs.items ++ into_iter_items l.agg-iterator ≡ box_aggs 0 l.fn.columns ++ l.fn.further.items
