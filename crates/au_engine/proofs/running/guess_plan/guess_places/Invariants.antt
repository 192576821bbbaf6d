-- The places so far, with those that are left, are those of all.
use Rattle.std.proofs.Common.{◌≡◌, ◌++◌, drop, length, map}
use Rattle.au_engine.specs.GuessReads.{guess_place}
use Rattle.au_engine.proofs.running.guess_plan.guess_places.Given as goal

abbrev pub invariant-loop-place : goal.invariant-loop-place
invariant-loop-place l = l.read.items ++ map (guess_place (length l.columns)) (drop l.place-index l.places) ≡ map (guess_place (length l.columns)) l.places
