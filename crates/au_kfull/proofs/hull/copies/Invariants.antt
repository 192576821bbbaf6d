-- The copies so far, with the ranges that are left, are all.
use Rattle.std.proofs.Common.{◌≡◌, ◌++◌, drop}
use Rattle.au_kfull.proofs.hull.copies.Given as goal

abbrev pub invariant-loop-cell : goal.invariant-loop-cell
invariant-loop-cell l = l.copies.items ++ drop l.cell-index l.cells ≡ l.cells
