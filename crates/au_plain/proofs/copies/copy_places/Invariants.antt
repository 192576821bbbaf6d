-- The places so far are copied.
use Rattle.std.proofs.Common.{◌≡◌, take}
use Rattle.au_plain.proofs.copies.copy_places.Given as goal

abbrev pub invariant-loop-place : goal.invariant-loop-place
invariant-loop-place l = l.copied.items ≡ take l.place-index l.places
