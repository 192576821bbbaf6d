-- What is kept of the aggregates so far, with those that are left.
use Rattle.std.proofs.Common.{◌≡◌, ◌++◌, drop, map}
use Rattle.au_folds.specs.Held.{kept_in_all}
use Rattle.au_folds.specs.Kept.{nothing_kept}
use Rattle.au_folds.proofs.fold.nothing.Given as goal

abbrev pub invariant-loop-agg : goal.invariant-loop-agg
invariant-loop-agg l = kept_in_all l.folds.items ++ map nothing_kept (drop l.agg-index l.aggs) ≡ map nothing_kept l.aggs
