-- There is a kind for each value, and the value is the one that its number stands for.
use Rattle.std.specs.Prelude.{IfOk}
use Rattle.std.proofs.Common.{◌≡◌, ◌<◌, ◌∙◌, [], ap, arith, get_or, length, of_z, subst, sym, to_z}
use Rattle.std.specs.Int.{w128}
use Rattle.std.proofs.lemmas.Int.{ints, to_z-of_z}
use Rattle.au_algebra.specs.Lists.{value_at}
use Rattle.au_codes.specs.CellMeaning.{cell_in}
use Rattle.au_codes.specs.Decoding.{decoded, decoded_row}
use Rattle.au_batches.proofs.DecodedCells.{cell_read, fewer, value_is}
use Rattle.au_batches.proofs.coded_row.CodedRow.value.Goals as goal

pub kind_at-requires : goal.kind_at-requires
kind_at-requires c =
    let r = c.self.inside in
    let zs = get_or r.batch.now r.place [] in
    let long : length (decoded_row r.book.now r.kinds.now zs) ≡ length c.args.self.now = ap length c.self.view_is in
    let kinds = fewer r.book.now r.kinds.now zs in
    omega (arith, c.requires, long, kinds)

pub returns : goal.returns
returns c =
    let r = c.self.inside in
    let zs = get_or r.batch.now r.place [] in
    let p = c.args.place in
    let within = subst (λ vs. p < length vs) (sym c.self.view_is) c.requires in
    let k = c.kind_at.result in
    let kept : to_z w128 (of_z w128 c.cell.result) ≡ c.cell.result = search (arith, ints, to_z-of_z) in
    let is : decoded r.book.now k (to_z w128 (of_z w128 c.cell.result)) ≡ value_at c.args.self.now p =
    ap (λ z. decoded r.book.now k z) (kept ∙ cell_read c.cell.result (cell_in zs p) c.cell.ensures)
    ∙ (ap (λ j. decoded r.book.now j (cell_in zs p)) c.kind_at.ensures
    ∙ (value_is r.book.now r.kinds.now zs p k within ∙ ap (λ vs. value_at vs p) c.self.view_is)) in
    subst (λ w. IfOk c.decode.result (λ v. v ≡ w)) is c.decode.ensures
