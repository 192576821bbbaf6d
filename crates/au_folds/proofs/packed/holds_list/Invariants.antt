-- The numbers from here on are those that are left of the key where all are.
use Rattle.std.proofs.Common.{◌≡◌, ◌-◌, drop}
use Rattle.au_codes.specs.CellMeaning.{same_cells}
use Rattle.au_folds.specs.Packed.{unpacked}
use Rattle.au_folds.proofs.packed.holds_list.Given as goal

abbrev pub invariant-loop-i : goal.invariant-loop-i
invariant-loop-i l = same_cells (drop l.i l.key) (unpacked l.width (l.deep - l.i) l.rest) ≡ same_cells l.key (unpacked l.width l.deep l.packed)
