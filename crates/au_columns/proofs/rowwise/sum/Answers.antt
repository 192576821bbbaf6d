-- What a checked call answers.
use Rattle.std.proofs.Common.{ℤ, ◌+ℤ◌}
use Rattle.std.specs.Int.{w128}
use Rattle.std.proofs.lemmas.Int.{to_z-of_z}
use Rattle.au_columns.proofs.Held.{from_checked}
use Rattle.au_columns.proofs.rowwise.sum.Goals as goal

pub returns : goal.returns
returns c =
    from_checked (λ (x y : ℤ). x +ℤ y) c.checked_sum.result c.args.m c.args.n _ _ (to_z-of_z w128 c.args.m c.ranges.m) (to_z-of_z w128 c.args.n c.ranges.n) c.checked_sum.ensures
