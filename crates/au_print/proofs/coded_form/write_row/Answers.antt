-- The counts, the ranges and the end make the record.
use Rattle.std.specs.Prelude.{List, OnOk, ℕ}
use Rattle.std.specs.Fmt.{signed_decimal}
use Rattle.std.proofs.Common.{◌≡◌, ◌+◌, ◌*◌, ◌++◌, [], ap, arith, get_or, length, refl, subst}
use Rattle.au_codes.specs.CellMeaning.{cell_in}
use Rattle.au_encode.specs.Encode.{decode_cells}
use Rattle.au_print.specs.Lent.{row_values}
use Rattle.au_print.specs.Records.{written}
use Rattle.au_print.specs.Texts.{cells_fields}
use Rattle.au_print.proofs.EncodedPlaces.{counts_from}
use Rattle.au_print.proofs.PlainRows.{fewer}
use Rattle.au_print.proofs.RowTexts.{counts_text, row_is}
use Rattle.au_print.proofs.coded_form.write_row.Goals as goal

pub counts_place-counts-requires : goal.counts_place-counts-requires
counts_place-counts-requires c =
    let a = c.args.answer.now in
    let cells = get_or a.batch.now c.args.row [] in
    let columns = length a.kinds.now in
    let at = counts_from columns (row_values a c.args.row) (3 * columns) c.requires.encoded refl in
    let kinds = fewer a.book.now a.value_kinds.now cells in
    omega (arith, at.within, kinds)

pub returns-clause-text : goal.returns-clause-text
returns-clause-text c =
    let a = c.args.answer.now in
    let cells = get_or a.batch.now c.args.row [] in
    let columns = length a.kinds.now in
    let p = c.counts_place-counts.result in
    let fields = cells_fields a.kinds.now (decode_cells columns (row_values a c.args.row)) in
    let counts = counts_text a.book.now a.value_kinds.now cells columns p c.requires.encoded c.counts_place-counts.ensures.is in
    let all =
    row_is (written c.args.writer.now (λ v. v.items)) (written c.write_counts.new.writer (λ v. v.items)) (written c.write_cells.new.writer (λ v. v.items))
    (signed_decimal (cell_in cells p)) (signed_decimal (cell_in cells (p + 1))) (signed_decimal (cell_in cells (p + 2)))
    fields _ (ap (λ (front : List (List ℕ)). front ++ fields) counts) c.in_ok-write_counts.ensures.text c.in_ok-write_cells.ensures.text in
    subst (λ (t : List ℕ). OnOk c.end_record.result (written c.end_record.new.writer (λ v. v.items) ≡ t)) all c.end_record.ensures.text
