-- One number more.
use Rattle.std.proofs.Common.{◌≡◌, arith, of_z, to_z}
use Rattle.std.specs.Int.{w64}
use Rattle.std.proofs.lemmas.Int.{ints, to_z-of_z}
use Rattle.au_blocks.proofs.OnePassColumns.{number-more}
use Rattle.au_blocks.proofs.filler.push_number.Goals as goal

pub returns-in_ok-push-in-Some-clause-cells : goal.returns-in_ok-push-in-Some-clause-cells
returns-in_ok-push-in-Some-clause-cells c =
    let n = c.in-Some.number in
    let fits : to_z w64 (of_z w64 n) ≡ n = search (arith, ints, to_z-of_z) in
    λ (is : _). rw (c.in_ok-push-in-Some.ensures.items, fits) (number-more c.args.kind c.args.text.now n c.args.numbers.now.items c.in-Some.ensures)
