-- What was read so far, before the inputs that are left.
use Rattle.std.specs.Prelude.{◌++◌}
use Rattle.std.specs.Vec.Iter.{into_iter_items}
use Rattle.au_physical.specs.Physicals.{physical_tree}
use Rattle.au_plain.specs.PlanKinds.{FitTables}
use Rattle.au_program.specs.Inputs.{ReadsAll}
use Rattle.au_engine.proofs.running.reads.read_inputs.Given as goal

abbrev pub invariant-loop-input : goal.invariant-loop-input
invariant-loop-input g l = record {
  reads : ReadsAll l.fn.inputs.items (l.held.items ++ into_iter_items l.input-iterator) (physical_tree l.fn.plan) (physical_tree l.plan);
  fit : FitTables (into_iter_items l.input-iterator) → FitTables l.fn.inputs.items;
}
