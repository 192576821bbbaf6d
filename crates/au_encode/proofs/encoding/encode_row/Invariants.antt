-- The values so far, with those of the ranges that are left, are those of all ranges, and their numbers lie in the range.
use Rattle.std.proofs.Common.{◌≡◌, ◌++◌, drop, true}
use Rattle.au_plain.specs.PlanKinds.{row_fits}
use Rattle.au_encode.specs.Encode.{encode_cells}
use Rattle.au_encode.proofs.encoding.encode_row.Given as goal

abbrev pub invariant-loop-range : goal.invariant-loop-range
invariant-loop-range l = record {
  values : l.row.items ++ encode_cells (drop l.range-index l.cells) ≡ encode_cells l.cells;
  fits : row_fits l.row.items ≡ true;
}
