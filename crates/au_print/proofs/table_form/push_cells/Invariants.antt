-- The cells that are left complete the line.
use Rattle.std.proofs.Common.{◌≡◌, ◌++◌, length}
use Rattle.au_print.specs.Tables.{cell_texts, barred}
use Rattle.au_print.proofs.table_form.push_cells.Given as goal

abbrev pub invariant-loop-width : goal.invariant-loop-width
invariant-loop-width l = l.text.items ++ barred l.widths (cell_texts l.kinds l.ranges) ≡ l.initial.text.items ++ barred l.fn.widths (cell_texts l.fn.kinds l.fn.ranges)

abbrev pub decreases-loop-width : goal.decreases-loop-width
decreases-loop-width l = length l.widths
