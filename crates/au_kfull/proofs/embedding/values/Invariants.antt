-- The guesses so far, with those of the ranges that are left, are all.
use Rattle.std.proofs.Common.{◌≡◌, ◌++◌, drop}
use Rattle.au_value.specs.Ranges.{guesses}
use Rattle.au_kfull.proofs.embedding.values.Given as goal

abbrev pub invariant-loop-range : goal.invariant-loop-range
invariant-loop-range l = l.values.items ++ guesses (drop l.range-index l.ranges) ≡ guesses l.ranges
