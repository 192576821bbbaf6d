-- The places so far, with those of the keys that are left, are those of all keys.
use Rattle.std.proofs.Common.{◌≡◌, ◌++◌, drop}
use Rattle.au_folds.specs.Keyed.{singles}
use Rattle.au_folds.specs.Places.{places_among, seen_after}
use Rattle.au_folds.proofs.keyed.single_places.Given as goal

abbrev pub invariant-loop-key : goal.invariant-loop-key
invariant-loop-key l = record {
  places : l.places.items ++ places_among (singles l.known.keys) (singles (drop l.key-index l.keys)) ≡ places_among (singles l.fn.known.keys) (singles l.keys);
  seen : seen_after (singles l.known.keys) (singles (drop l.key-index l.keys)) ≡ seen_after (singles l.fn.known.keys) (singles l.keys);
}
