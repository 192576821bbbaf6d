-- The batch has the codes of the first values of each row.
use Rattle.std.proofs.Common.{◌≡◌}
use Rattle.au_codes.specs.Codes.{coded_rows}
use Rattle.au_codes.specs.TextCodes.{text_code}
use Rattle.au_exec.specs.HeldRows.{lent_rows}
use Rattle.au_exec.proofs.ValueColumns.{fronts}
use Rattle.au_exec.proofs.value_columns.coded_values.Given as goal

abbrev pub invariant-loop-place : goal.invariant-loop-place
invariant-loop-place l = l.batch ≡ coded_rows (text_code l.book) (fronts l.place (lent_rows l.rows))
