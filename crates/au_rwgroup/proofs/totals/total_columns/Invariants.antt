-- The columns so far, with those of the aggregates that are left, are those of all.
use Rattle.std.proofs.Common.{◌≡◌, ◌++◌, drop, map}
use Rattle.au_plain.specs.PTerms.{pterm}
use Rattle.au_rwgroup.specs.Totals.{total_columns}
use Rattle.au_rwgroup.proofs.totals.total_columns.Given as goal

abbrev pub invariant-loop-agg : goal.invariant-loop-agg
invariant-loop-agg l = map pterm l.columns.items ++ total_columns l.triple.first (drop l.agg-index l.aggs) ≡ total_columns l.triple.first l.aggs
