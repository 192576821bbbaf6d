-- Those so far, and those that are left.
use Rattle.std.proofs.Common.{◌≡◌, ◌++◌, map}
use Rattle.std.specs.Vec.Iter.{into_iter_items}
use Rattle.au_expr.specs.Terms.{term, Column}
use Rattle.au_typing.proofs.trees.arguments.Given as goal

abbrev pub invariant-loop-argument : goal.invariant-loop-argument
invariant-loop-argument l = map term l.columns.items ++ map term (into_iter_items l.argument-iterator) ≡ map Column l.fn.keys ++ map term l.fn.others.items
