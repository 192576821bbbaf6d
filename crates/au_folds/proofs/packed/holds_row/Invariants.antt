-- The cells from here on are the numbers that are left where all are.
use Rattle.std.proofs.Common.{◌≡◌, ◌-◌, drop}
use Rattle.au_codes.specs.CellMeaning.{same_cells}
use Rattle.au_columns.specs.Batches.{row_at}
use Rattle.au_folds.specs.Keyed.{lists}
use Rattle.au_folds.specs.Packed.{unpacked}
use Rattle.au_folds.proofs.packed.holds_row.Given as goal

abbrev pub invariant-loop-i : goal.invariant-loop-i
invariant-loop-i l = same_cells (row_at (lists (drop l.i l.columns)) l.row) (unpacked l.width (l.deep - l.i) l.rest) ≡ same_cells (row_at (lists l.columns) l.row) (unpacked l.width l.deep l.key)
