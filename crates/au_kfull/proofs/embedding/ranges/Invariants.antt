-- The ranges so far, with those of the values that are left, are all.
use Rattle.std.proofs.Common.{◌≡◌, ◌++◌, map, drop}
use Rattle.au_value.specs.Ranges.{certain}
use Rattle.au_kfull.proofs.embedding.ranges.Given as goal

abbrev pub invariant-loop-value : goal.invariant-loop-value
invariant-loop-value l = l.ranges.items ++ map certain (drop l.value-index l.values) ≡ map certain l.values
