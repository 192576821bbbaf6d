-- The columns that are left.
use Rattle.std.proofs.Common.{◌≡◌, ◌+◌, ◌++◌, length, map}
use Rattle.au_expr.specs.Terms.{term}
use Rattle.au_typing.specs.Judged.{FewDigits}
use Rattle.au_typing.specs.Queries.{brought_from}
use Rattle.au_typing.proofs.sets.brought.Given as goal

abbrev pub invariant-loop-c : goal.invariant-loop-c
invariant-loop-c l = (map term l.exprs.items ++ brought_from l.place l.rest l.to ≡ brought_from 0 l.own l.columns) × FewDigits l.to × (l.place + length l.rest ≡ length l.own)

abbrev pub decreases-loop-c : goal.decreases-loop-c
decreases-loop-c l = length l.rest
