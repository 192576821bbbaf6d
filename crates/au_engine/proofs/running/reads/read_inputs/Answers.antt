-- The rows that the plan reads of one more input.
use Rattle.std.specs.Prelude.{◌++◌}
use Rattle.std.proofs.Common.{subst, sym}
use Rattle.std.specs.Vec.Iter.{into_iter_items}
use Rattle.au_physical.specs.Physicals.{physical_tree}
use Rattle.au_plain.specs.PlanKinds.{FitTables}
use Rattle.au_program.specs.Inputs.{ReadsAll}
use Rattle.au_program.proofs.ReadRows.{next_read}
use Rattle.au_engine.proofs.running.reads.read_inputs.Goals as goal

pub loop-input-preserved : goal.loop-input-preserved
loop-input-preserved g c =
    let done = c.loop-input.held.items in
    let now = c.read_next.new.held.items in
    let later = into_iter_items c.next.new.self in
    let whole = c.args.inputs.items in
    let first = physical_tree c.args.plan.now in
    let so_far =
    subst (λ rest. ReadsAll whole (done ++ rest) first (physical_tree c.loop-input.plan)) c.in-Some.ensures.steps.0
    c.loop-input.invariant.reads in
    record {
      reads = next_read whole done later now c.in-Some.input first (physical_tree c.loop-input.plan) (physical_tree c.read_next.new.plan) so_far c.in_ok-read_next.ensures.reads;
      fit = λ h. c.loop-input.invariant.fit (subst FitTables (sym c.in-Some.ensures.steps.0) (c.in_ok-read_next.ensures.fit, h));
    }
