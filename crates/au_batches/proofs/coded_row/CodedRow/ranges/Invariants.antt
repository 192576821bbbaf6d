-- The ranges so far, with those that are left, are those of the row.
use Rattle.std.proofs.Common.{◌≡◌, ◌++◌, drop}
use Rattle.au_encode.specs.Encode.{decode_cells}
use Rattle.au_batches.proofs.coded_row.CodedRow.ranges.Given as goal

abbrev pub invariant-loop-at : goal.invariant-loop-at
invariant-loop-at l = l.ranges.items ++ drop l.at (decode_cells l.columns l.self) ≡ decode_cells l.columns l.self
