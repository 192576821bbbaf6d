-- The lists so far, with the keys that are left, are those of all keys.
use Rattle.std.proofs.Common.{◌≡◌, [], drop, map}
use Rattle.au_folds.specs.Keyed.{lists}
use Rattle.au_folds.specs.Packed.{unpacked}
use Rattle.au_folds.specs.Places.{seen_after}
use Rattle.au_folds.proofs.held.free_lists.Given as goal

abbrev pub invariant-loop-key : goal.invariant-loop-key
invariant-loop-key l = seen_after (lists l.free.keys) (map (unpacked l.width l.deep) (drop l.key-index l.keys)) ≡ seen_after [] (map (unpacked l.width l.deep) l.keys)
