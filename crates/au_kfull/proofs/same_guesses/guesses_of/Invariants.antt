-- The guesses so far, with those of the ranges that are left, are those of all ranges.
use Rattle.std.proofs.Common.{◌≡◌, ◌++◌, drop}
use Rattle.au_value.specs.Ranges.{guesses}
use Rattle.au_kfull.proofs.same_guesses.guesses_of.Given as goal

abbrev pub invariant-loop-cell : goal.invariant-loop-cell
invariant-loop-cell l = l.values.items ++ guesses (drop l.cell-index l.cells) ≡ guesses l.cells
