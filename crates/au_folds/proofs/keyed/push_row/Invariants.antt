-- The key so far, with the cells of the columns that are left, is that of all columns.
use Rattle.std.proofs.Common.{◌≡◌, ◌++◌, drop}
use Rattle.au_columns.specs.Batches.{row_at}
use Rattle.au_folds.specs.Keyed.{lists}
use Rattle.au_folds.proofs.keyed.push_row.Given as goal

abbrev pub invariant-loop-column : goal.invariant-loop-column
invariant-loop-column l = l.key.items ++ row_at (lists (drop l.column-index l.columns)) l.row ≡ l.fn.key.items ++ row_at (lists l.columns) l.row
