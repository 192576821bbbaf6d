-- There is a kind for each value, and the value is the one for which its number stands.
use Rattle.std.proofs.Common.{◌≡◌, ◌∙◌, [], ap, arith, get_or, of_z, to_z}
use Rattle.std.specs.Int.{w128}
use Rattle.std.proofs.lemmas.Int.{ints, to_z-of_z}
use Rattle.au_codes.specs.CellMeaning.{cell_in}
use Rattle.au_codes.specs.Decoding.{decoded}
use Rattle.au_print.proofs.PlainRows.{fewer, value_is}
use Rattle.au_print.proofs.coded_fields.value_at_place.Goals as goal

pub kind_at-requires : goal.kind_at-requires
kind_at-requires c =
    let a = c.args.answer.now in
    let kinds = fewer a.book.now a.value_kinds.now (get_or a.batch.now c.args.row []) in
    omega (arith, c.requires.place, kinds)

pub returns : goal.returns
returns c =
    let a = c.args.answer.now in
    let cells = get_or a.batch.now c.args.row [] in
    let p = c.args.place in
    let kept : to_z w128 (of_z w128 c.number.result) ≡ c.number.result = search (arith, ints, to_z-of_z) in
    ap (decoded a.book.now c.kind_at.result) (kept ∙ c.number.ensures)
    ∙ ap (λ k. decoded a.book.now k (cell_in cells p)) c.kind_at.ensures
    ∙ value_is a.book.now a.value_kinds.now cells p c.kind_at.result c.requires.place
