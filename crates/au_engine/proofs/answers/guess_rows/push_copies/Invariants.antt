-- So many copies stand behind the rows, and their numbers lie in the range.
use Rattle.std.proofs.Common.{◌≡◌, ◌++◌, replicate}
use Rattle.au_value.specs.Ranges.{guesses}
use Rattle.au_plain.specs.PlanKinds.{FitRows}
use Rattle.au_exec.specs.HeldRows.{rows_of}
use Rattle.au_engine.proofs.answers.guess_rows.push_copies.Given as goal

abbrev pub invariant-loop : goal.invariant-loop
invariant-loop l = record {
  rows : rows_of l.rows ≡ rows_of l.initial.rows ++ replicate l.counter (guesses l.alternative.cells);
  fit : FitRows (replicate l.counter (guesses l.alternative.cells));
}
