-- The guesses so far, with those of the cells that are left, are those of all.
use Rattle.std.proofs.Common.{◌≡◌, ◌++◌, drop}
use Rattle.au_value.specs.Ranges.{guesses}
use Rattle.au_ua.proofs.tables.guesses.Given as goal

abbrev pub invariant-loop-column : goal.invariant-loop-column
invariant-loop-column l = l.guesses.items ++ drop l.column (guesses l.alternative.cells) ≡ guesses l.alternative.cells
