-- The copy is run over the same inputs.
use Rattle.std.proofs.Common.{◌≡◌, ◌∙◌, ap}
use Rattle.std.proofs.lemmas.Result.{IfOk-weaker}
use Rattle.au_physical.specs.Physicals.{physical_tree}
use Rattle.au_program.proofs.Together.{at_ok}
use Rattle.au_engine.proofs.RunRows.{copy_leaves, copy_rows, copy_starts}
use Rattle.au_engine.proofs.running.finding.found_by.Goals as goal

pub run-requires-clause-starts : goal.run-requires-clause-starts
run-requires-clause-starts g c κs within =
    let plan = physical_tree c.args.plan.now in
    let copy = at_ok c.copy_physical.result c.in-Ok.both.0 c.in-Ok.ensures.values.0 (λ p. physical_tree p ≡ plan) c.copy_physical.ensures in
    copy_starts c.args.inputs.items c.in-Ok.both.1.items plan (physical_tree c.in-Ok.both.0) (ap (λ v. v.items) c.in-Ok.ensures.values.1) copy c.requires.starts

pub returns-clause-rows : goal.returns-clause-rows
returns-clause-rows g c =
    let plan = physical_tree c.args.plan.now in
    let copy = at_ok c.copy_physical.result c.in-Ok.both.0 c.in-Ok.ensures.values.0 (λ p. physical_tree p ≡ plan) c.copy_physical.ensures in
    IfOk-weaker c.run.result _ _
    (λ v is. is ∙ copy_rows c.args.inputs.items c.in-Ok.both.1.items plan (physical_tree c.in-Ok.both.0) (ap (λ v. v.items) c.in-Ok.ensures.values.1) copy)
    c.run.ensures.rows

pub returns-clause-overflow : goal.returns-clause-overflow
returns-clause-overflow g c e =
    let plan = physical_tree c.args.plan.now in
    let copy = at_ok c.copy_physical.result c.in-Ok.both.0 c.in-Ok.ensures.values.0 (λ p. physical_tree p ≡ plan) c.copy_physical.ensures in
    copy_leaves c.args.inputs.items c.in-Ok.both.1.items plan (physical_tree c.in-Ok.both.0) (ap (λ v. v.items) c.in-Ok.ensures.values.1) copy (c.run.ensures.overflow e)
