use Rattle.std.proofs.Common.{◌≡◌, false}
use Rattle.au_columns.specs.Steps.{AreWorked}
use Rattle.au_columns.proofs.narrow.work.Given as goal

abbrev pub invariant-loop-i : goal.invariant-loop-i
invariant-loop-i l = l.leaves ≡ false → AreWorked l.how l.i l.a l.b l.made
