-- The ranges so far, with those of the aggregates that are left, are all.
use Rattle.std.proofs.Common.{◌≡◌, ◌++◌, drop, map}
use Rattle.std.specs.Prelude.{flat_map}
use Rattle.std.specs.List.{AllByRecursion, list_all}
use Rattle.au_value.specs.Numeral.{is_i128}
use Rattle.au_algebra.specs.Bounded.{aggregate}
use Rattle.au_algebra.specs.Fits.{agg_numbers}
use Rattle.au_kfull.specs.Groups.{seen}
use Rattle.au_kfull.specs.Outputs.{CanAggregate}
use Rattle.au_kfull.proofs.output.push_aggregates.Given as goal

abbrev pub invariant-loop-agg : goal.invariant-loop-agg
invariant-loop-agg l = record {
  made : l.cells.items ++ map (aggregate (seen l.group)) (drop l.agg-index l.aggs) ≡ l.fn.cells.items ++ map (aggregate (seen l.group)) l.aggs;
  fits : list_all (λ agg. list_all is_i128 (agg_numbers (seen l.group) agg)) (drop l.agg-index l.aggs) ≡ list_all is_i128 (flat_map (agg_numbers (seen l.group)) l.aggs);
  possible : AllByRecursion (CanAggregate (seen l.group)) (drop l.agg-index l.aggs);
}
