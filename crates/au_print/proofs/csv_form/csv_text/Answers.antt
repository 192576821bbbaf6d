-- The text is what was written: the header, and then the rows.
use Rattle.std.proofs.Common.{◌∙◌, ap, map}
use Rattle.au_print.specs.Texts.{csv_text, header_fields, record_text}
use Rattle.au_algebra.specs.Entries.{entry}
use Rattle.std.proofs.lemmas.Result.{IfOk-weaker}
use Rattle.au_print.proofs.Csv.{csv_text_is}
use Rattle.au_print.proofs.csv_form.csv_text.Goals as goal

pub returns : goal.returns
returns c =
    let names = c.args.answer.now.names.items in
    let rows = c.args.answer.now.rows in
    let same_names = c.as_slice.ensures.value ∙ ap (λ a. a.names.items) c.answer.view_is in
    let titled = c.in_ok-writer.ensures.text ∙ ap (λ ns. record_text (header_fields ns)) same_names in
    let same_rows = ap (λ xs. map (λ row. entry row.0.items row.1) xs) c.as_slice-rows.ensures.value ∙ ap (λ a. a.rows) c.answer.view_is in
    let same_kinds = c.as_slice-kinds.ensures.value ∙ ap (λ a. a.kinds.items) c.answer.view_is in
    let text = csv_text_is (λ row. entry row.0.items row.1) names c.as_slice-kinds.result.now c.as_slice-rows.result.now rows _ _ same_rows titled c.in_ok-write_rows.ensures in
    IfOk-weaker c.finish.result _ _ (λ t is. is ∙ text ∙ ap (λ kinds. csv_text names kinds rows) same_kinds) c.finish.ensures
