use Rattle.std.proofs.Common.{◌≡◌, ◌<◌, ℕ}
use Rattle.au_columns.specs.Steps.{number_at}
use Rattle.au_columns.proofs.wide.widen.Given as goal

abbrev pub invariant-loop-i : goal.invariant-loop-i
invariant-loop-i l = (k : ℕ) → k < l.i → number_at l.made k ≡ number_at l.numbers k
