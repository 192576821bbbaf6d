-- The ranges so far, with those that are left, are all.
use Rattle.std.proofs.Common.{◌≡◌, ◌++◌, ◌+◌, ◌*◌, drop, map}
use Rattle.au_plain.specs.PTerms.{pterm, Column}
use Rattle.au_rwexpr.specs.Counts.{positive}
use Rattle.au_rwgroup.specs.GroupPlan.{all_result_columns}
use Rattle.au_rwgroup.proofs.result_columns.all_result_columns.Given as goal

abbrev pub invariant-loop-agg : goal.invariant-loop-agg
invariant-loop-agg l = record {
  columns : map pterm l.columns.items ++ all_result_columns (positive (Column l.tests.there)) (positive (Column l.tests.guess)) l.place (drop l.agg-index l.aggs) ≡ all_result_columns (positive (Column l.tests.there)) (positive (Column l.tests.guess)) l.fn.from l.aggs;
  place : l.place ≡ l.fn.from + 4 * l.agg-index;
}
