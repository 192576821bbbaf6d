-- So far the columns are as wide as the rows before this one need.
use Rattle.std.proofs.Common.{◌≡◌, take, map}
use Rattle.au_algebra.specs.Entries.{entry}
use Rattle.au_print.specs.Tables.{column_widths, triple_width}
use Rattle.au_print.proofs.widths.measure.Given as goal

abbrev pub invariant-loop-ranges : goal.invariant-loop-ranges
invariant-loop-ranges l = record {
  columns : l.columns.items ≡ column_widths l.fn.names l.fn.kinds (map (λ r. entry r.0.items r.1) (take l.ranges-index l.rows));
  row : l.row ≡ triple_width (map (λ r. entry r.0.items r.1) (take l.ranges-index l.rows));
}
