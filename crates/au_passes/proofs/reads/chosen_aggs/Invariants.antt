-- The marked ones so far, and those that are left.
use Rattle.std.proofs.Common.{◌≡◌, ◌++◌, drop}
use Rattle.au_passes.specs.Reading.{chosen}
use Rattle.au_passes.proofs.reads.chosen_aggs.Given as goal

abbrev pub invariant-loop-i : goal.invariant-loop-i
invariant-loop-i l = l.read.items ++ chosen (drop l.i l.marks) (drop l.i l.aggs) ≡ chosen l.marks l.aggs
