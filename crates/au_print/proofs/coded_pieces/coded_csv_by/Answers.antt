-- The text is the header, and then the rows of all spans.
use Rattle.std.proofs.Common.{◌++◌, ◌∙◌}
use Rattle.au_print.proofs.LentTexts.{lent_text_is}
use Rattle.au_print.proofs.coded_pieces.coded_csv_by.Goals as goal

pub returns : goal.returns
returns g c =
    let a = c.args.answer.now in
    let front = c.in_ok-text.ensures ∙ c.in_ok-headed.ensures.text in
    lent_text_is a c.in_ok-text.text.items _ front (c.in_ok-append.ensures.items ∙ (λ i. c.in_ok-text.text.items ++ c.in_ok-records.ensures i))
