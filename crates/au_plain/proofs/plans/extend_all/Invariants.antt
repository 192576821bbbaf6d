-- What is left is added to what stands.
use Rattle.std.specs.Prelude.{◌≡◌, map}
use Rattle.std.specs.Vec.Iter.{into_iter_items}
use Rattle.au_plain.specs.PTerms.{pterm}
use Rattle.au_plain.specs.Plans.{extend_all, plan_tree}
use Rattle.au_plain.proofs.plans.extend_all.Given as goal

abbrev pub invariant-loop-column : goal.invariant-loop-column
invariant-loop-column l = extend_all (map pterm (into_iter_items l.column-iterator)) (plan_tree l.all) ≡ extend_all (map pterm l.fn.added.items) (plan_tree l.fn.plan)
