-- The rows so far have so many values.
use Rattle.std.proofs.Common.{◌≡◌, length}
use Rattle.std.specs.List.{AllByRecursion}
use Rattle.au_evaltests.proofs.road_tests.guesses_of.Given as goal

abbrev pub invariant-loop-cells : goal.invariant-loop-cells
invariant-loop-cells g l = AllByRecursion (λ r. length r.cells ≡ l.columns) l.guesses
