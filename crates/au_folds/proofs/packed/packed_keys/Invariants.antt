-- The keys so far, with the rows that are left.
use Rattle.std.proofs.Common.{◌≡◌, ◌++◌, drop, map}
use Rattle.au_columns.specs.Batches.{rows_of}
use Rattle.au_folds.specs.Keyed.{lists}
use Rattle.au_folds.specs.Packed.{unpacked, width_of}
use Rattle.au_folds.proofs.packed.packed_keys.Given as goal

abbrev pub invariant-loop-row : goal.invariant-loop-row
invariant-loop-row l = map (unpacked (width_of l.deep) l.deep) l.keys.items ++ drop l.row (rows_of l.count (lists l.columns)) ≡ rows_of l.count (lists l.columns)
