-- The sums so far, with those that are left, are those of all.
use Rattle.std.proofs.Common.{◌≡◌, drop, true}
use Rattle.au_expr.specs.Figures.{fit}
use Rattle.au_folds.specs.Kept.{magnitudes_of}
use Rattle.au_folds.specs.Merged.{sums_joined}
use Rattle.au_folds.proofs.numbers.join_sums.Given as goal

abbrev pub invariant-loop-i : goal.invariant-loop-i
invariant-loop-i l = record {
  sums : sums_joined l.sums.items (drop l.i l.places) (drop l.i l.others) ≡ sums_joined l.fn.sums.items l.places l.others;
  fits : fit (magnitudes_of l.sums.items) ≡ true;
}
