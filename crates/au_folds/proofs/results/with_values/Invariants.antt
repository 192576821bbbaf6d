-- The rows so far, with the aggregates that are left, are those with all aggregates.
use Rattle.std.proofs.Common.{◌≡◌, drop, length, map}
use Rattle.std.specs.List.{AllByRecursion}
use Rattle.au_folds.specs.Held.{kept_in_all}
use Rattle.au_folds.specs.Kept.{kept_values}
use Rattle.au_folds.specs.Tables.{beside_all}
use Rattle.au_folds.proofs.results.with_values.Given as goal

abbrev pub invariant-loop-fold : goal.invariant-loop-fold
invariant-loop-fold l = record {
  rows : beside_all l.rows (map kept_values (kept_in_all (drop l.fold-index l.folds))) ≡ beside_all l.fn.rows (map kept_values (kept_in_all l.folds));
  long : AllByRecursion (λ k. length (kept_values k) ≡ length l.rows) (kept_in_all (drop l.fold-index l.folds));
}
