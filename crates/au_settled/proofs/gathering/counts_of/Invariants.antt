-- The counts so far, with those of the rows that are left, are all of them.
use Rattle.std.proofs.Common.{◌≡◌, ◌++◌, drop}
use Rattle.au_settled.specs.Counted.{parts_of}
use Rattle.au_settled.proofs.gathering.counts_of.Given as goal

abbrev pub invariant-loop-run : goal.invariant-loop-run
invariant-loop-run l = l.numbers ++ parts_of l.part (drop l.run-index l.runs) ≡ parts_of l.part l.runs
