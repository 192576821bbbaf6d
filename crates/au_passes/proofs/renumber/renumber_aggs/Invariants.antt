-- The aggregates so far are renumbered.
use Rattle.std.proofs.Common.{◌≡◌, map, take}
use Rattle.au_passes.specs.Pruning.{renumbered_agg}
use Rattle.au_passes.proofs.renumber.renumber_aggs.Given as goal

abbrev pub invariant-loop-agg : goal.invariant-loop-agg
invariant-loop-agg l = l.renumbered.items ≡ map (renumbered_agg l.found) (take l.agg-index l.aggs)
