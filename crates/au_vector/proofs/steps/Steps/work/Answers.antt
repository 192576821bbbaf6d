-- The condition of the join first, then the operators above it.
use Rattle.std.proofs.Common.{ap}
use Rattle.au_physical.specs.Physicals.{physical_tree}
use Rattle.au_columns.specs.Chains.{lent_trees}
use Rattle.au_vector.specs.PlanSteps.{condition}
use Rattle.au_vector.proofs.RowWise.{worked_above, worked_below}
use Rattle.au_vector.proofs.steps.Steps.work.Goals as goal

pub returns-in-Ok : goal.returns-in-Ok
returns-in-Ok c =
    let s = c.args.self.now in
    worked_above (lent_trees s.operators.items) (lent_trees c.deref.result.now) (condition (physical_tree s.bottom.now)) c.args.rows c.in-Ok.rows c.worked.result (ap lent_trees c.deref.ensures.value)
    c.in-Ok.ensures.0 c.in-Ok.ensures.1 c.worked.ensures

pub returns-in-Err : goal.returns-in-Err
returns-in-Err c = λ over.
    let s = c.args.self.now in
    worked_below (lent_trees s.operators.items) (condition (physical_tree s.bottom.now)) c.args.rows (c.in-Err.ensures over)
