-- What is made, and what is still to be made of the values.
use Rattle.std.proofs.Common.{◌≡◌, ◌++◌, drop}
use Rattle.au_codes.specs.Codes.{coded_row}
use Rattle.au_codes.specs.TextCodes.{text_code}
use Rattle.au_codes.proofs.cells.code_row.Given as goal

abbrev pub invariant-loop-value : goal.invariant-loop-value
invariant-loop-value l = l.cells.items ++ coded_row (text_code l.book) (drop l.value-index l.row) ≡ coded_row (text_code l.book) l.row
