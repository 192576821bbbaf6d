-- Where the numbers of what is left lie in the range, all do.
use Rattle.std.proofs.Common.{drop}
use Rattle.std.specs.List.{AllByRecursion}
use Rattle.au_translate.specs.HeldNumbers.{FitCandidate}
use Rattle.au_translate.proofs.held_numbers.read_alternatives.Given as goal

abbrev pub invariant-loop-place : goal.invariant-loop-place
invariant-loop-place l = AllByRecursion FitCandidate (drop l.place l.alternatives) → AllByRecursion FitCandidate l.alternatives
