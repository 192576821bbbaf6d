-- The numbers in the three places are counts.
use Rattle.std.proofs.Common.{◌≡◌, ◌+◌, ◌*◌, [], ap, arith, get_or, nat_abs, of_z, suc, to_z, ◌∙◌}
use Rattle.std.specs.Int.{w128}
use Rattle.std.proofs.lemmas.Int.{ints, to_z-of_z}
use Rattle.au_codes.specs.CellMeaning.{cell_in}
use Rattle.au_settled.proofs.counts.placed.Goals as goal

pub count-least-requires : goal.count-least-requires
count-least-requires c =
    let row = get_or c.args.rows.now c.args.place [] in
    let first = 3 * c.args.columns in
    let kept : to_z w128 (of_z w128 c.cell.result) ≡ c.cell.result = search (arith, ints, to_z-of_z) in
    (nat_abs (cell_in row first), kept ∙ c.cell.ensures ∙ c.requires.counts.least)

pub count-guess-requires : goal.count-guess-requires
count-guess-requires c =
    let row = get_or c.args.rows.now c.args.place [] in
    let first = 3 * c.args.columns in
    let kept : to_z w128 (of_z w128 c.cell-2.result) ≡ c.cell-2.result = search (arith, ints, to_z-of_z) in
    let one : first + 1 ≡ suc first = omega arith in
    (nat_abs (cell_in row (suc first)), kept ∙ c.cell-2.ensures ∙ ap (cell_in row) one ∙ c.requires.counts.guess)

pub count-most-requires : goal.count-most-requires
count-most-requires c =
    let row = get_or c.args.rows.now c.args.place [] in
    let first = 3 * c.args.columns in
    let kept : to_z w128 (of_z w128 c.cell-3.result) ≡ c.cell-3.result = search (arith, ints, to_z-of_z) in
    let two : first + 2 ≡ suc (suc first) = omega arith in
    (nat_abs (cell_in row (suc (suc first))), kept ∙ c.cell-3.ensures ∙ ap (cell_in row) two ∙ c.requires.counts.most)
