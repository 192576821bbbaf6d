-- So many rows have room in the quotient just where their product with the size of one has room in the whole.
use Rattle.std.proofs.Common.{arith, length, map, nat_le, sum, ◌+◌, ◌/◌, ◌<◌, ◌∙◌}
use Rattle.au_translate.specs.Translate.{guessed_copies}
use Rattle.au_engine.specs.Exchange.{greatest_plain_size, guess_row_count}
use Rattle.au_engine.proofs.GuessSizes.{divided}
use Rattle.au_engine.proofs.answers.guess_size.fits_plain.Goals as goal

pub returns : goal.returns
returns c =
    let t = c.args.table.now in
    let some : 0 < length t.columns + 1 = omega arith in
    c.has_at_most.ensures
    ∙ (λ i. nat_le (sum (map guessed_copies (c.blocks-2.ensures.of i))) (greatest_plain_size / (length (c.columns.ensures.of i) + 1)))
    ∙ divided (guess_row_count t) greatest_plain_size (length t.columns + 1) some
