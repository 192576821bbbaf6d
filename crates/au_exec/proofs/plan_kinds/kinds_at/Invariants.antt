-- The kinds so far, with those of the places that are left, are those of all places.
use Rattle.std.proofs.Common.{◌≡◌, ◌++◌, drop}
use Rattle.au_exec.specs.KnownKinds.{kinds_at}
use Rattle.au_exec.proofs.plan_kinds.kinds_at.Given as goal

abbrev pub invariant-loop-place : goal.invariant-loop-place
invariant-loop-place l = l.kept.items ++ kinds_at l.kinds (drop l.place-index l.places) ≡ kinds_at l.kinds l.places
