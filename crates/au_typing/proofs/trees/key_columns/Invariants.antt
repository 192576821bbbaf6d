-- The columns so far.
use Rattle.std.proofs.Common.{◌≡◌, map, take}
use Rattle.au_expr.specs.Terms.{term, Column}
use Rattle.au_typing.proofs.trees.key_columns.Given as goal

abbrev pub invariant-loop-place : goal.invariant-loop-place
invariant-loop-place l = map term l.columns.items ≡ map Column (take l.place-index l.keys)
