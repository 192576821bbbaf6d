-- So far the columns are widened to the texts before this one.
use Rattle.std.proofs.Common.{◌≡◌, take}
use Rattle.au_print.specs.Tables.{cell_texts, widened}
use Rattle.au_print.proofs.widths.widen.Given as goal

abbrev pub invariant-loop-i : goal.invariant-loop-i
invariant-loop-i l = l.columns.items ≡ widened l.initial.columns.items (cell_texts l.kinds (take l.i l.ranges))
