-- The column so far, with the numbers of the keys that are left.
use Rattle.std.proofs.Common.{◌≡◌, ◌++◌, drop, map}
use Rattle.au_columns.specs.Steps.{number_at}
use Rattle.au_folds.specs.Packed.{unpacked}
use Rattle.au_folds.proofs.results.packed_place.Given as goal

abbrev pub invariant-loop-key : goal.invariant-loop-key
invariant-loop-key l =
    l.column ++ map (λ key. number_at key l.place) (map (unpacked l.width l.deep) (drop l.key-index l.keys))
    ≡ map (λ key. number_at key l.place) (map (unpacked l.width l.deep) l.keys)
