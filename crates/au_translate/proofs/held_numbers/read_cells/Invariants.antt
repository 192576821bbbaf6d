-- Where the numbers of what is left lie in the range, all do.
use Rattle.std.proofs.Common.{drop}
use Rattle.std.specs.List.{AllByRecursion}
use Rattle.au_translate.specs.HeldNumbers.{FitSpan}
use Rattle.au_translate.proofs.held_numbers.read_cells.Given as goal

abbrev pub invariant-loop-at : goal.invariant-loop-at
invariant-loop-at l = AllByRecursion FitSpan (drop l.at l.alternative.cells) → AllByRecursion FitSpan l.alternative.cells
