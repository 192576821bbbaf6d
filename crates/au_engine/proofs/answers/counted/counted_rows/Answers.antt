-- The physical plan stands for the tree's plan, so that its run finds the rows of the tree.
use Rattle.std.proofs.Common.{◌∙◌, ap, subst, sym}
use Rattle.au_algebra.specs.Trees.{tree}
use Rattle.au_plain.specs.Plans.{plan_tree}
use Rattle.au_physical.specs.PhysicalKinds.{IsPhysicalFor}
use Rattle.au_physical.specs.PhysicalMeaning.{physical_rows}
use Rattle.au_physical.specs.Physicals.{physical_tree}
use Rattle.au_exec.specs.HeldRows.{rows_of}
use Rattle.au_engine.specs.Exchange.{value_kinds}
use Rattle.au_engine.proofs.CountedRuns.{counted_finds, counted_start}
use Rattle.au_engine.proofs.answers.counted.counted_rows.Goals as goal

pub run_over-requires-clause-plan : goal.run_over-requires-clause-plan
run_over-requires-clause-plan g c κs within =
    let kinds = value_kinds c.args.tables.now in
    let q = tree c.args.query.now in
    let p = c.in-Ok.counted in
    let held = c.in-Ok-plan_with_rows.both.1.items in
    subst (λ ts. IsPhysicalFor ts (physical_tree c.in-Ok-plan_with_rows.both.0)) (sym c.deref.ensures.value)
    (counted_start c.args.counts kinds q (plan_tree p.plan) p.columns c.in-Ok.ensures c.requires.counts c.args.inputs.items held (physical_tree c.in-Ok-plan_with_rows.both.0)
    c.in-Ok-plan_with_rows.ensures c.requires.typed c.requires.inputs)

pub returns-in-Ok-rows : goal.returns-in-Ok-rows
returns-in-Ok-rows g c =
    let kinds = value_kinds c.args.tables.now in
    let q = tree c.args.query.now in
    let p = c.in-Ok.counted in
    let physical = physical_tree c.in-Ok-plan_with_rows.both.0 in
    counted_finds c.args.counts kinds q (plan_tree p.plan) p.columns c.in-Ok.ensures c.requires.counts c.args.inputs.items c.in-Ok-plan_with_rows.both.1.items physical
    c.in-Ok-plan_with_rows.ensures (rows_of c.in-Ok-rows.rows) (c.in-Ok-rows.ensures ∙ c.in-Ok-run_over.ensures.rows ∙ ap (physical_rows physical) c.deref.ensures.value)
