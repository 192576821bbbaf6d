-- The guesses so far, with those of the columns that are left, are those of all.
use Rattle.std.proofs.Common.{◌≡◌, ◌++◌, drop}
use Rattle.au_value.specs.Ranges.{guesses}
use Rattle.au_translate.proofs.guesses.guesses.Given as goal

abbrev pub invariant-loop-at : goal.invariant-loop-at
invariant-loop-at l = l.guesses.items ++ drop l.at (guesses l.alternative.cells) ≡ guesses l.alternative.cells
