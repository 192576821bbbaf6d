-- The physical plan is typed for the table.
use Rattle.std.proofs.Common.{map}
use Rattle.au_plain.specs.Plans.{plan_tree}
use Rattle.au_physical.specs.Physicals.{physical_tree}
use Rattle.au_exec.specs.HeldRows.{rows_of}
use Rattle.au_evaltests.proofs.Held.{physical_for}
use Rattle.au_evaltests.proofs.worker_tests.rows_by.Goals as goal

pub start-requires-clause-plan : goal.start-requires-clause-plan
start-requires-clause-plan g c κs within =
    physical_for (map rows_of c.args.tables.items) (plan_tree c.args.plan) (physical_tree c.in_ok-physical.physical) c.requires.tables c.in_ok-physical.ensures c.requires.plan
