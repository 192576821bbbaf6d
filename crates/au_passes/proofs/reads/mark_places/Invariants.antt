-- The places that are left are to be marked.
use Rattle.std.proofs.Common.{◌≡◌, drop}
use Rattle.au_passes.specs.Reading.{mark_all}
use Rattle.au_passes.proofs.reads.mark_places.Given as goal

abbrev pub invariant-loop-place : goal.invariant-loop-place
invariant-loop-place l = mark_all (drop l.place-index l.places) l.marks ≡ mark_all l.places l.initial.marks
