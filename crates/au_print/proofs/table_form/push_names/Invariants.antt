-- The names that are left complete the line.
use Rattle.std.proofs.Common.{◌≡◌, ◌++◌, length, map}
use Rattle.au_print.specs.Tables.{printable, barred}
use Rattle.au_print.proofs.table_form.push_names.Given as goal

abbrev pub invariant-loop-width : goal.invariant-loop-width
invariant-loop-width l = l.text.items ++ barred l.widths (map printable l.names) ≡ l.initial.text.items ++ barred l.fn.widths (map printable l.fn.names)

abbrev pub decreases-loop-width : goal.decreases-loop-width
decreases-loop-width l = length l.widths
