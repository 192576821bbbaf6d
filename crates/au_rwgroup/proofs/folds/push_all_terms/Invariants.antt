-- The terms so far, with those of the aggregates that are left, are those of all.
use Rattle.std.proofs.Common.{◌≡◌, ◌++◌, drop, map}
use Rattle.au_plain.specs.PTerms.{pterm}
use Rattle.au_rwgroup.specs.Folds.{all_fold_terms}
use Rattle.au_rwgroup.proofs.folds.push_all_terms.Given as goal

abbrev pub invariant-loop-agg : goal.invariant-loop-agg
invariant-loop-agg l = map pterm l.columns.items ++ all_fold_terms l.triple.first (drop l.agg-index l.aggs) ≡ map pterm l.fn.columns.items ++ all_fold_terms l.triple.first l.aggs
