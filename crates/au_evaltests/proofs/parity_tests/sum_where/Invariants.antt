-- The sum so far, and what is left to be added.
use Rattle.std.proofs.Common.{◌≡◌, ◌^◌, ◌<◌, drop}
use Rattle.au_value.specs.Joining.{joined_sum}
use Rattle.au_evaltests.specs.Summed.{summed}
use Rattle.au_evaltests.specs.Parities.{terms}
use Rattle.au_evaltests.proofs.parity_tests.sum_where.Given as goal

abbrev pub invariant-loop-row : goal.invariant-loop-row
invariant-loop-row l = record {
  left : joined_sum l.sum (summed (terms l.rest (drop l.row-index l.rows))) ≡ summed (terms l.rest l.rows);
  fits : l.sum.magnitude < 2 ^ 127;
}
