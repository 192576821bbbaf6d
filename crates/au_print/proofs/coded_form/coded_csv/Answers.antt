-- The text is the header, and then all rows.
use Rattle.std.proofs.Common.{◌++◌, ◌∙◌, ap}
use Rattle.std.proofs.lemmas.Result.{IfOk-weaker}
use Rattle.au_codes.specs.Codes.{CellRows}
use Rattle.au_print.specs.Lent.{rows_text}
use Rattle.au_print.specs.Records.{written}
use Rattle.au_print.proofs.LentTexts.{all_rows, lent_text_is}
use Rattle.au_print.proofs.coded_form.coded_csv.Goals as goal

pub returns : goal.returns
returns c =
    let a = c.args.answer.now in
    let rows = c.in_ok-write_rows.ensures.text ∙ ap (λ (rows : CellRows). written c.in_ok-writer.writer (λ v. v.items) ++ rows_text a rows) (all_rows a.batch.now c.len.result c.len.ensures) in
    let text = lent_text_is a _ _ c.in_ok-writer.ensures.text rows in
    IfOk-weaker c.finish.result _ _ (λ t is. is ∙ text) c.finish.ensures
