-- The counts are written one behind the other.
use Rattle.std.specs.Prelude.{List, OnOk, ℕ}
use Rattle.std.specs.Fmt.{signed_decimal}
use Rattle.std.proofs.Common.{◌≡◌, ◌+◌, ◌∙◌, [], ap, arith, get_or, of_z, subst, to_z}
use Rattle.std.specs.Int.{w128}
use Rattle.std.proofs.lemmas.Int.{ints, to_z-of_z}
use Rattle.au_codes.specs.CellMeaning.{cell_in}
use Rattle.au_print.specs.Records.{written}
use Rattle.au_print.proofs.RowTexts.{counted}
use Rattle.au_print.proofs.coded_fields.write_counts.Goals as goal

pub returns-clause-text : goal.returns-clause-text
returns-clause-text c =
    let cells = get_or c.args.batch.now c.args.row [] in
    let p = c.args.place in
    let kept : to_z w128 (of_z w128 c.number.result) ≡ c.number.result = search (arith, ints, to_z-of_z) in
    let kept-2 : to_z w128 (of_z w128 c.number-2.result) ≡ c.number-2.result = search (arith, ints, to_z-of_z) in
    let kept-3 : to_z w128 (of_z w128 c.number-3.result) ≡ c.number-3.result = search (arith, ints, to_z-of_z) in
    let least = c.as_slice.ensures.value ∙ c.in_ok-form_number.ensures ∙ ap signed_decimal (kept ∙ c.number.ensures) in
    let guess = c.as_slice-2.ensures.value ∙ c.in_ok-form_number-2.ensures ∙ ap signed_decimal (kept-2 ∙ c.number-2.ensures) in
    let most = c.as_slice-3.ensures.value ∙ c.in_ok-form_number-3.ensures ∙ ap signed_decimal (kept-3 ∙ c.number-3.ensures) in
    let all =
    counted (written c.args.writer.now (λ v. v.items)) _ _
    (signed_decimal (cell_in cells p)) (signed_decimal (cell_in cells (p + 1))) (signed_decimal (cell_in cells (p + 2)))
    c.as_slice.result.now c.as_slice-2.result.now c.as_slice-3.result.now
    c.in_ok-begin_record.ensures.text least c.in_ok-add_field.ensures.text guess most in
    subst (λ (t : List ℕ). OnOk c.add_field-2.result (written c.add_field-2.new.writer (λ v. v.items) ≡ t)) all c.add_field-2.ensures.text
