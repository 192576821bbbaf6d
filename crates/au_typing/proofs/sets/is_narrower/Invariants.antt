-- The columns that are left.
use Rattle.std.proofs.Common.{◌≡◌, length}
use Rattle.au_typing.specs.Queries.{is_narrower}
use Rattle.au_typing.proofs.sets.is_narrower.Given as goal

abbrev pub invariant-loop-c : goal.invariant-loop-c
invariant-loop-c l = is_narrower l.rest l.to ≡ is_narrower l.own l.columns

abbrev pub decreases-loop-c : goal.decreases-loop-c
decreases-loop-c l = length l.rest
