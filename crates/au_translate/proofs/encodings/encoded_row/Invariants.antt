-- The values so far, with those of the columns that are left, are those of all columns, and their numbers lie in the range.
use Rattle.std.proofs.Common.{◌≡◌, ◌++◌, drop, true}
use Rattle.au_value.specs.Ranges.{guesses}
use Rattle.au_plain.specs.PlanKinds.{row_fits}
use Rattle.au_encode.specs.Encode.{encode_cells}
use Rattle.au_translate.specs.Translate.{ranges_of}
use Rattle.au_translate.proofs.Alternatives.{spans_from}
use Rattle.au_translate.proofs.encodings.encoded_row.Given as goal

abbrev pub invariant-loop-at : goal.invariant-loop-at
invariant-loop-at l = record {
  values : l.row.items ++ encode_cells (spans_from l.block.alternatives l.at (guesses (drop l.at l.shown.cells))) ≡ encode_cells (ranges_of l.block);
  fits : row_fits l.row.items ≡ true;
}
