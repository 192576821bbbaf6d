-- The numbers that were taken, one by one, are those of the places.
use Rattle.std.proofs.Common.{◌≡◌, length, arith}
use Rattle.au_columns.proofs.Gathered.{gathered}
use Rattle.au_columns.proofs.wide.gather.Goals as goal

pub returns-clause-made : goal.returns-clause-made
returns-clause-made c =
    let len : length c.loop-i.made ≡ length c.args.places.now = omega arith in
    gathered c.args.numbers.now c.args.places.now c.loop-i.made len (λ i below. c.loop-i.invariant i (omega arith))
