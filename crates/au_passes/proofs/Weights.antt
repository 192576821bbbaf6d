-- How many nodes expressions have.
use Rattle.std.specs.Prelude.{◌<◌}
use Rattle.std.proofs.Common.{arith}
use Rattle.au_plain.specs.PTerms.{PTerm, Compare, And, Or, Not}
use Rattle.au_passes.specs.Tests.{weight}

pub some_weight : (e : PTerm) → 0 < weight e
some_weight (Compare how a b) = omega arith
some_weight (And a b) = omega arith
some_weight (Or a b) = omega arith
some_weight (Not a) = omega arith
some_weight e = omega arith
