-- The rows and the plan that were gone on with.
use Rattle.std.proofs.Common.{subst, sym}
use Rattle.au_physical.specs.Physicals.{physical_tree}
use Rattle.au_program.specs.Inputs.{ReadsAll}
use Rattle.au_program.proofs.Together.{at_ok}
use Rattle.au_engine.proofs.running.running.plan_with_rows.Goals as goal

pub returns-clause-reads : goal.returns-clause-reads
returns-clause-reads g c =
    subst (λ plan. ReadsAll c.args.inputs.items c.in_ok-held.held.items (physical_tree c.args.plan) (physical_tree plan)) (sym c.in_ok-held.ensures.values.1)
    (at_ok c.read_inputs-held.result c.in_ok-held.held c.in_ok-held.ensures.values.0
    (λ v. ReadsAll c.args.inputs.items v.items (physical_tree c.args.plan) (physical_tree c.read_inputs-held.new.plan)) c.read_inputs-held.ensures.reads)
