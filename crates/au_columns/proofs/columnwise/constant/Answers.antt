-- A number that is written out, for each row.
use Rattle.std.proofs.Common.{◌≡◌, arith, of_z, replicate, sym, to_z, ◌∙◌}
use Rattle.std.specs.Int.{w128}
use Rattle.std.proofs.lemmas.Int.{ints, to_z-of_z}
use Rattle.au_codes.specs.CellMeaning.{cell}
use Rattle.au_codes.specs.Careful.{fitting}
use Rattle.au_columns.proofs.Made.{made_constant}
use Rattle.au_columns.proofs.columnwise.constant.Goals as goal

pub returns : goal.returns
returns c =
    let kept : to_z w128 (of_z w128 c.literal.result) ≡ c.literal.result = search (arith, ints, to_z-of_z) in
    made_constant (λ row. fitting (cell c.args.value.now)) c.args.batch.now c.literal.result c.in_ok-made.made (λ row. sym c.literal.ensures)
    (c.in_ok-made.ensures ∙ (λ j. replicate (c.len.ensures j) (kept j)))
