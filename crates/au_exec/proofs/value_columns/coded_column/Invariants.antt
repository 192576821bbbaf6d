-- The codes so far, with those of the rows that are left, are those of all rows.
use Rattle.std.proofs.Common.{◌≡◌, ◌++◌, drop, map}
use Rattle.au_algebra.specs.Lists.{value_at}
use Rattle.au_codes.specs.Codes.{code}
use Rattle.au_codes.specs.TextCodes.{text_code}
use Rattle.au_exec.specs.HeldRows.{lent_rows}
use Rattle.au_exec.proofs.value_columns.coded_column.Given as goal

abbrev pub invariant-loop-row : goal.invariant-loop-row
invariant-loop-row l =
    l.numbers ++ map (code (text_code l.book)) (map (λ row. value_at row l.place) (lent_rows (drop l.row-index l.rows)))
    ≡ map (code (text_code l.book)) (map (λ row. value_at row l.place) (lent_rows l.rows))
