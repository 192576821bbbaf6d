-- The columns of the aggregates that are left are to be marked.
use Rattle.std.proofs.Common.{◌≡◌, drop, map}
use Rattle.au_passes.specs.Reading.{agg_column, mark_all}
use Rattle.au_passes.proofs.reads.mark_aggs.Given as goal

abbrev pub invariant-loop-agg : goal.invariant-loop-agg
invariant-loop-agg l = mark_all (map agg_column (drop l.agg-index l.aggs)) l.marks ≡ mark_all (map agg_column l.aggs) l.initial.marks
