use Rattle.au_columns.specs.Steps.{AreTested}
use Rattle.au_columns.proofs.wide.judge.Given as goal

abbrev pub invariant-loop-i : goal.invariant-loop-i
invariant-loop-i l = AreTested l.how l.i l.a l.b l.flags
