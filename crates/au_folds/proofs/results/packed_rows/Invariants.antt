-- The rows so far are the fronts of the keys.
use Rattle.std.proofs.Common.{◌≡◌, map, take}
use Rattle.au_folds.specs.Packed.{unpacked}
use Rattle.au_folds.proofs.results.packed_rows.Given as goal

abbrev pub invariant-loop-place : goal.invariant-loop-place
invariant-loop-place l = l.rows ≡ map (take l.place) (map (unpacked l.width l.deep) l.keys)
