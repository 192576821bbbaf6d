-- The guesses so far, with those of the cells that are left, are those of all, and their numbers lie in the range.
use Rattle.std.proofs.Common.{◌≡◌, ◌++◌, drop, true}
use Rattle.au_value.specs.Ranges.{guesses}
use Rattle.au_plain.specs.PlanKinds.{row_fits}
use Rattle.au_engine.proofs.answers.guess_rows.guesses.Given as goal

abbrev pub invariant-loop-column : goal.invariant-loop-column
invariant-loop-column l = record {
  values : l.guesses.items ++ drop l.column (guesses l.alternative.cells) ≡ guesses l.alternative.cells;
  fits : row_fits l.guesses.items ≡ true;
}
