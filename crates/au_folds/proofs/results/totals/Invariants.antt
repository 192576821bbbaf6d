-- The column so far, with the totals of the sums that are left.
use Rattle.std.proofs.Common.{◌≡◌, ◌++◌, drop, map}
use Rattle.au_folds.proofs.results.totals.Given as goal

abbrev pub invariant-loop-sum : goal.invariant-loop-sum
invariant-loop-sum l = l.column ++ map (λ s. s.total) (drop l.sum-index l.sums) ≡ map (λ s. s.total) l.sums
