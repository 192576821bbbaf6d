use Rattle.au_columns.specs.Steps.{AreChosen}
use Rattle.au_columns.proofs.wide.choose.Given as goal

abbrev pub invariant-loop-i : goal.invariant-loop-i
invariant-loop-i l = AreChosen l.i l.flags l.a l.b l.made
