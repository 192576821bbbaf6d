-- The places so far, and those of the marks that are left.
use Rattle.std.proofs.Common.{◌≡◌, ◌++◌, drop}
use Rattle.au_passes.specs.Reading.{places_from, read_places}
use Rattle.au_passes.proofs.reads.marked.Given as goal

abbrev pub invariant-loop-i : goal.invariant-loop-i
invariant-loop-i l = l.places.items ++ places_from l.i (drop l.i l.marks) ≡ read_places l.marks
