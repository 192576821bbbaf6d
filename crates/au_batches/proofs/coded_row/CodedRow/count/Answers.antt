-- The number is the count, which has no sign.
use lib.Signed.{mag}
use Rattle.std.proofs.Common.{◌≡◌, ◌<◌, ◌^◌, ◌∙◌, [], ap, arith, get_or, nat_abs, of_z, pos, refl, slice_get, subst, sym, to_z}
use Rattle.std.specs.Prelude.{Some}
use Rattle.std.specs.Int.{w128}
use Rattle.std.proofs.lemmas.Int.{ints, to_z-of_z}
use Rattle.au_value.specs.declared.value.Value.TheVariants.{Int}
use Rattle.au_codes.specs.CellMeaning.{cell_in}
use Rattle.au_batches.proofs.DecodedCells.{cell_read, number_is}
use Rattle.au_batches.proofs.EncodedPlaces.{count_there}
use Rattle.au_batches.proofs.coded_row.CodedRow.count.Goals as goal

pub unreachable-requires : goal.unreachable-requires
unreachable-requires c =
    let r = c.self.inside in
    let zs = get_or r.batch.now r.place [] in
    let p = c.args.place in
    let n = c.requires.0 in
    let there = subst (λ vs. slice_get vs p ≡ Some (Int (pos n))) (sym c.self.view_is) c.requires.1 in
    let kept : to_z w128 (of_z w128 c.cell.result) ≡ c.cell.result = search (arith, ints, to_z-of_z) in
    let number : c.cell.result ≡ pos n = cell_read c.cell.result (cell_in zs p) c.cell.ensures ∙ number_is r.book.now r.kinds.now zs p n there in
    let is : c.unsigned_abs.result ≡ n = c.unsigned_abs.ensures.value ∙ ap nat_abs (kept ∙ number) in
    let small : n < 2 ^ 127 = subst (λ z. mag z < 2 ^ 127) number c.cell.type_inv in
    let big = c.in-None.ensures.none.0 refl in
    omega (arith, big, is, small)

pub returns : goal.returns
returns c =
    let r = c.self.inside in
    let zs = get_or r.batch.now r.place [] in
    let p = c.args.place in
    let n = c.requires.0 in
    let there = subst (λ vs. slice_get vs p ≡ Some (Int (pos n))) (sym c.self.view_is) c.requires.1 in
    let kept : to_z w128 (of_z w128 c.cell.result) ≡ c.cell.result = search (arith, ints, to_z-of_z) in
    let number : to_z w128 (of_z w128 c.cell.result) ≡ pos n = kept ∙ (cell_read c.cell.result (cell_in zs p) c.cell.ensures ∙ number_is r.book.now r.kinds.now zs p n there) in
    c.in-Some.ensures.value ∙ (c.unsigned_abs.ensures.value ∙ (ap nat_abs number ∙ sym (count_there c.args.self.now p n c.requires.1)))
