-- The rows so far have the kinds of the table.
use Rattle.au_plain.specs.PlanKinds.{HaveKinds}
use Rattle.au_exec.specs.HeldRows.{rows_of}
use Rattle.au_evaltests.specs.Typed.{test_table_kinds}
use Rattle.au_evaltests.proofs.plan_tests.rows.Given as goal

abbrev pub invariant-loop-part : goal.invariant-loop-part
invariant-loop-part g l = HaveKinds test_table_kinds (rows_of l.rows)
