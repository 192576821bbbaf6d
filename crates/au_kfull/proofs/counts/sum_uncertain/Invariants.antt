-- The sum so far, with that over the rows that are left, is that over all rows.
use Rattle.std.proofs.Common.{◌≡◌, ◌+◌, not, drop, filter}
use Rattle.au_value.specs.Ranges.{all_certain}
use Rattle.au_algebra.specs.Bounded.{most_of}
use Rattle.au_kfull.specs.Keys.{keys_of}
use Rattle.au_kfull.proofs.counts.sum_uncertain.Given as goal

abbrev pub invariant-loop-row : goal.invariant-loop-row
invariant-loop-row l =
    l.sum + most_of (filter (λ r. not (all_certain (keys_of l.keys r.cells))) (drop l.row-index l.rows)) ≡ most_of (filter (λ r. not (all_certain (keys_of l.keys r.cells))) l.rows)
