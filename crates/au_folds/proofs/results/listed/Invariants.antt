-- The column so far, with the numbers that are left.
use Rattle.std.proofs.Common.{◌≡◌, ◌++◌, drop}
use Rattle.au_folds.proofs.results.listed.Given as goal

abbrev pub invariant-loop-number : goal.invariant-loop-number
invariant-loop-number l = l.column ++ drop l.number-index l.numbers ≡ l.numbers
