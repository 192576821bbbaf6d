-- The hull so far, with the rows that are left, has the hull of all.
use Rattle.std.proofs.Common.{◌≡◌, ◌∷◌, map, drop}
use Rattle.au_algebra.specs.Bounded.{hull_of}
use Rattle.au_kfull.specs.Keys.{kinds, keys_of, HasKinds}
use Rattle.au_kfull.proofs.hull.hull_from.Given as goal

abbrev pub invariant-loop-row : goal.invariant-loop-row
invariant-loop-row l = record {
  hull : hull_of (l.hull.items ∷ map (λ r. keys_of l.keys r.cells) (drop l.row-index l.others)) ≡ hull_of (keys_of l.keys l.first ∷ map (λ r. keys_of l.keys r.cells) l.others);
  own_kinds : kinds l.hull.items ≡ kinds (keys_of l.keys l.first);
  one_kinds : HasKinds (kinds l.first) (drop l.row-index l.others);
}
