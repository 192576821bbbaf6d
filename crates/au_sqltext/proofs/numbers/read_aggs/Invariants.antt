-- The aggregates that are left tell of all.
use Rattle.std.proofs.Common.{◌≡◌, drop}
use Rattle.std.specs.List.{list_all}
use Rattle.au_sqltext.specs.Fitting.{agg_fits}
use Rattle.au_sqltext.proofs.numbers.read_aggs.Given as goal

abbrev pub invariant-loop-agg : goal.invariant-loop-agg
invariant-loop-agg l = list_all agg_fits (drop l.agg-index l.aggs) ≡ list_all agg_fits l.aggs
