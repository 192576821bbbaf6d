-- Where the numbers that are left lie in the range, all do.
use Rattle.std.proofs.Common.{drop}
use Rattle.std.specs.Int.{w128}
use Rattle.std.specs.Int.RustNames.{FitsSigned}
use Rattle.std.specs.List.{AllByRecursion}
use Rattle.au_folds.proofs.keys.read_numbers.Given as goal

abbrev pub invariant-loop-number : goal.invariant-loop-number
invariant-loop-number l = AllByRecursion (FitsSigned w128) (drop l.number-index l.numbers) → AllByRecursion (FitsSigned w128) l.numbers
