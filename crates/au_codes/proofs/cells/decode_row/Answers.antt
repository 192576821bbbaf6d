-- One number more.
use Rattle.std.proofs.Common.{◌≡◌, arith, get_or, pos}
use Rattle.std.proofs.lemmas.Int.{to_z-of_z, ints}
use Rattle.au_value.specs.declared.kinds.Kind.TheVariants.{Int}
use Rattle.au_codes.specs.Decoding.{decoded}
use Rattle.au_codes.proofs.TextsBack.{row_step}
use Rattle.au_codes.proofs.cells.decode_row.Goals as goal

pub loop-place-preserved : goal.loop-place-preserved
loop-place-preserved c =
    let made : c.in_ok-decode.field-0 ≡ decoded c.args.book.now (get_or c.args.kinds.now c.loop-place.place Int) (get_or c.args.cells.now c.loop-place.place (pos 0)) = search (arith, ints, to_z-of_z, c.in_ok-decode.ensures) in
    let items = c.in_ok-push.ensures.items in
    row_step c.args.book.now c.args.kinds.now c.args.cells.now c.loop-place.place c.loop-place.row.items c.in_ok-decode.field-0 c.push.new.self.items Int (pos 0) c.loop-place-test.true c.requires made items c.loop-place.invariant
