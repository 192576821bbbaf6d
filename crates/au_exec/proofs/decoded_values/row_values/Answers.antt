-- One value more.
use Rattle.std.proofs.Common.{◌≡◌, ◌<◌, ◌∙◌, [], arith, get_or, length, of_z, to_z}
use Rattle.std.specs.Int.{w128}
use Rattle.std.proofs.lemmas.Int.{ints, to_z-of_z}
use Rattle.au_codes.specs.CellMeaning.{cell_in}
use Rattle.au_codes.specs.Decoding.{decoded}
use Rattle.au_exec.proofs.DecodedCells.{cell_read, next_value}
use Rattle.au_exec.proofs.decoded_values.row_values.Goals as goal

pub loop-at-preserved : goal.loop-at-preserved
loop-at-preserved c =
    let zs = get_or c.args.batch.now c.args.place [] in
    let at = c.loop-at.at in
    let below : at < length c.args.kinds.now = grind (arith, c.loop-at-test.true) in
    let kept : to_z w128 (of_z w128 c.cell.result) ≡ c.cell.result = search (arith, ints, to_z-of_z) in
    let number = kept ∙ cell_read c.cell.result (cell_in zs at) c.cell.ensures in
    let is = c.in_ok-value.ensures ∙ (λ j. decoded c.args.book.now (c.kind_at-kind.ensures j) (number j)) in
    next_value c.args.book.now c.args.kinds.now zs at c.loop-at.row.items _ _ _ below c.requires.wide is c.in_ok-push.ensures.items c.loop-at.invariant
