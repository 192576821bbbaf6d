-- The rows found so far, with those that are found among the others, are all.
use Rattle.std.proofs.Common.{◌≡◌, ◌++◌, drop, filter}
use Rattle.std.specs.Prelude.{nat_le}
use Rattle.au_kfull.proofs.aggregates.guessed_there.Given as goal

abbrev pub invariant-loop-row : goal.invariant-loop-row
invariant-loop-row l =
    l.found.items ++ filter (λ r. nat_le 1 r.annot.guess) (drop l.row-index l.rows) ≡ filter (λ r. nat_le 1 r.annot.guess) l.rows
