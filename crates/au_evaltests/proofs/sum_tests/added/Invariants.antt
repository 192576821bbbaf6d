use Rattle.std.proofs.Common.{◌≡◌, ◌^◌, ◌<◌, drop}
use Rattle.au_value.specs.Joining.{joined_sum}
use Rattle.au_evaltests.specs.Summed.{summed}
use Rattle.au_evaltests.proofs.sum_tests.added.Given as goal

abbrev pub invariant-loop-row : goal.invariant-loop-row
invariant-loop-row l = record {
  left : joined_sum l.sum (summed (drop l.row-index l.rows)) ≡ summed l.rows;
  fits : l.sum.magnitude < 2 ^ 127;
}
