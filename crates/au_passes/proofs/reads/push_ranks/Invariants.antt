-- The numbers so far, and those of the marks that are left; the next number has not run past the marks.
use Rattle.std.proofs.Common.{◌≡◌, ◌+◌, ◌≤◌, ◌++◌, drop}
use Rattle.au_passes.specs.Reading.{ranks}
use Rattle.au_passes.proofs.reads.push_ranks.Given as goal

abbrev pub invariant-loop-marked : goal.invariant-loop-marked
invariant-loop-marked l =
    (l.found.items ++ ranks l.next (drop l.marked-index l.marks) ≡ l.initial.found.items ++ ranks l.first l.marks)
    × (l.next ≤ l.first + l.marked-index)
