-- What a checked call answers.
use Rattle.std.proofs.Common.{ℤ}
use Rattle.std.specs.Prelude.{neg_ℤ}
use Rattle.std.specs.Int.{w128}
use Rattle.std.proofs.lemmas.Int.{to_z-of_z}
use Rattle.au_columns.proofs.Held.{from_checked}
use Rattle.au_columns.proofs.rowwise.negation.Goals as goal

pub returns : goal.returns
returns c =
    let same = to_z-of_z w128 c.args.m c.ranges.m in
    from_checked (λ (x y : ℤ). neg_ℤ x) c.checked_negation.result c.args.m c.args.m _ _ same same c.checked_negation.ensures
