-- The last bits.
use Rattle.std.proofs.Common.{arith, pos, ◌≤ℤ◌}
use Rattle.std.proofs.lemmas.Int.{ints}
use Rattle.au_folds.proofs.PackedLaws.{low_is}
use Rattle.au_folds.proofs.packed.low.Goals as goal

pub returns-else-key-lt0 : goal.returns-else-key-lt0
returns-else-key-lt0 c =
    let no = c.if-key-lt0.false in
    let up : pos 0 ≤ℤ c.args.key = grind (arith, ints, no) in
    low_is c.args.width c.args.key c.ones.result c.requires c.ranges.key up c.ones.ensures
