-- What is left of the rows makes what all rows make.
use Rattle.std.proofs.Common.{◌≡◌, drop, map}
use Rattle.au_codes.specs.Gathering.{with_rows}
use Rattle.au_codes.proofs.long_texts.LongTexts.add_rows.Given as goal

abbrev pub invariant-loop-row : goal.invariant-loop-row
invariant-loop-row l = with_rows l.self (map (λ row. row.items) (drop l.row-index l.rows)) ≡ with_rows l.fn.self (map (λ row. row.items) l.rows)
