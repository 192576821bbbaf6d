-- The condition so far, with the rest, is that of all.
use Rattle.std.proofs.Common.{◌≡◌, map}
use Rattle.std.specs.Prelude.{option_map}
use Rattle.std.specs.Vec.Iter.{into_iter_items}
use Rattle.au_plain.specs.PTerms.{pterm}
use Rattle.au_passes.specs.Conditions.{and_all, condition}
use Rattle.au_passes.proofs.conjuncts.condition_of.Given as goal

abbrev pub invariant-loop-e : goal.invariant-loop-e
invariant-loop-e l = and_all (option_map pterm l.so_far) (map pterm (into_iter_items l.e-iterator)) ≡ condition (map pterm l.fn.all.items)
