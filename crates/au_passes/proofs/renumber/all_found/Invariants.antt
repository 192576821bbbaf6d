-- The numbers so far are those at the places so far.
use Rattle.std.proofs.Common.{◌≡◌, map, slice_index, take}
use Rattle.au_passes.proofs.renumber.all_found.Given as goal

abbrev pub invariant-loop-place : goal.invariant-loop-place
invariant-loop-place l = l.numbers.items ≡ map (slice_index l.found) (take l.place-index l.places)
