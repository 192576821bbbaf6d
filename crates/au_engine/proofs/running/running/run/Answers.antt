-- The run is over the rows that the plan reads.
use Rattle.std.proofs.Common.{◌≡◌, ◌∙◌, true, ap, subst, sym}
use Rattle.std.proofs.lemmas.Result.{IfOk-weaker}
use Rattle.au_expr.specs.Figures.{fit}
use Rattle.au_physical.specs.PhysicalKinds.{IsPhysicalFor}
use Rattle.au_physical.specs.PhysicalMeaning.{physical_rows}
use Rattle.au_physical.specs.PhysicalNumbers.{physical_numbers}
use Rattle.au_physical.specs.Physicals.{physical_tree}
use Rattle.au_program.proofs.Together.{from_two}
use Rattle.au_engine.proofs.RunRows.{run_fits, run_leaves}
use Rattle.au_engine.proofs.running.running.run.Goals as goal

pub run_over-requires-clause-plan : goal.run_over-requires-clause-plan
run_over-requires-clause-plan g c κs within =
    subst (λ ts. IsPhysicalFor ts (physical_tree c.in-Ok.both.0)) (sym c.deref.ensures.value) (c.in-Ok.ensures.reads.typed c.requires.starts)

pub returns-clause-rows : goal.returns-clause-rows
returns-clause-rows g c =
    IfOk-weaker c.run_over.result _ _
    (λ v is. is ∙ ap (physical_rows (physical_tree c.in-Ok.both.0)) c.deref.ensures.value ∙ c.in-Ok.ensures.reads.rows)
    c.run_over.ensures.rows

pub returns-clause-fit : goal.returns-clause-fit
returns-clause-fit g c =
    let q = physical_tree c.in-Ok.both.0 in
    let held = c.in-Ok.both.1.items in
    from_two c.run_over.result _ _ _
    (λ v is fits.
    run_fits c.args.inputs.items held (physical_tree c.args.plan) q c.in-Ok.ensures.reads c.in-Ok.ensures.fit c.requires.starts v
    (is ∙ ap (physical_rows q) c.deref.ensures.value) (subst (λ ts. fit (physical_numbers q ts) ≡ true) c.deref.ensures.value fits))
    c.run_over.ensures.rows c.run_over.ensures.fits
