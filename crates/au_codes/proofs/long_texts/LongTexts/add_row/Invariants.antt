-- What is left of the row makes what the whole row makes.
use Rattle.std.proofs.Common.{◌≡◌, drop}
use Rattle.au_codes.specs.Gathering.{with_row}
use Rattle.au_codes.proofs.long_texts.LongTexts.add_row.Given as goal

abbrev pub invariant-loop-value : goal.invariant-loop-value
invariant-loop-value l = with_row l.self (drop l.value-index l.row) ≡ with_row l.fn.self l.row
