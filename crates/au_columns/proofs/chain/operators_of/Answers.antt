-- One operator more, and what is below it.
use Rattle.std.proofs.Common.{ap, ◌∙◌}
use Rattle.std.specs.Borrow.{Bor}
use Rattle.std.proofs.lemmas.List.{map_push}
use Rattle.au_physical.specs.declared.physical.Physical.{Physical}
use Rattle.au_physical.specs.Physicals.{physical_tree}
use Rattle.au_columns.specs.Chains.{downward, lent_trees}
use Rattle.au_columns.proofs.Chains.{all_down, next_down, next_smaller}
use Rattle.au_columns.proofs.chain.operators_of.Goals as goal

pub loop-next-smaller : goal.loop-next-smaller
loop-next-smaller c = next_smaller (physical_tree c.loop-next.rest.now) (physical_tree c.in-Some.next.now) c.in-Some.ensures

pub loop-next-preserved : goal.loop-next-preserved
loop-next-preserved c =
    next_down (downward (physical_tree c.args.plan.now)) (lent_trees c.loop-next.operators.items) _ (physical_tree c.loop-next.rest.now) (physical_tree c.in-Some.next.now) c.in-Some.ensures
    (ap lent_trees c.in_ok-push.ensures.items ∙ map_push (λ (p : Bor Physical). physical_tree p.now) c.loop-next.operators.items c.loop-next.rest) c.loop-next.invariant

pub returns : goal.returns
returns c = all_down (downward (physical_tree c.args.plan.now)) (lent_trees c.loop-next.operators.items) (physical_tree c.loop-next.rest.now) c.in_default.ensures c.loop-next.invariant
