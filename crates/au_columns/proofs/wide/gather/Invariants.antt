use Rattle.au_columns.specs.Steps.{AreGathered}
use Rattle.au_columns.proofs.wide.gather.Given as goal

abbrev pub invariant-loop-i : goal.invariant-loop-i
invariant-loop-i l = AreGathered l.i l.numbers l.places l.made
