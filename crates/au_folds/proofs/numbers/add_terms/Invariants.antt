-- The sums so far, with the terms that are left, are those of all terms.
use Rattle.std.proofs.Common.{◌≡◌, drop, true}
use Rattle.au_expr.specs.Figures.{fit}
use Rattle.au_folds.specs.Kept.{magnitudes_of, sums_with}
use Rattle.au_folds.proofs.numbers.add_terms.Given as goal

abbrev pub invariant-loop-i : goal.invariant-loop-i
invariant-loop-i l = record {
  sums : sums_with l.sums.items (drop l.i l.places) (drop l.i l.terms) ≡ sums_with l.fn.sums.items l.places l.terms;
  fits : fit (magnitudes_of l.sums.items) ≡ true;
}
