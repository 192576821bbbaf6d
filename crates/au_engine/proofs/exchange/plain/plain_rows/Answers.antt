-- The physical plan stands for the plan, so that its run finds what the plan gives, up to order.
use Rattle.std.proofs.Common.{◌≡◌, ◌∙◌, Err, false, ap, subst, sym}
use Rattle.au_expr.specs.Figures.{fit}
use Rattle.au_physical.specs.PhysicalKinds.{IsPhysicalFor}
use Rattle.au_physical.specs.PhysicalMeaning.{physical_rows}
use Rattle.au_physical.specs.PhysicalNumbers.{physical_numbers}
use Rattle.au_expr.specs.declared.fault.EvalFault.TheVariants.{Overflow}
use Rattle.au_plain.specs.Plans.{plan_tree}
use Rattle.au_physical.specs.Physicals.{physical_tree}
use Rattle.au_exec.specs.HeldRows.{rows_of}
use Rattle.au_engine.proofs.PlainRuns.{answer_kinds, can_start, is_answer, leaves_range}
use Rattle.au_engine.proofs.exchange.plain.plain_rows.Goals as goal

pub run_over-requires-clause-plan : goal.run_over-requires-clause-plan
run_over-requires-clause-plan g c κs within =
    subst (λ ts. IsPhysicalFor ts (physical_tree c.in-Ok.both.0)) (sym c.deref.ensures.value)
    (can_start c.args.tables.now (plan_tree c.args.plan) (physical_tree c.in-Ok.both.0) c.in-Ok.ensures.stands c.in-Ok.ensures.tables
    c.in-Ok.both.1.items c.in-Ok.ensures.rows c.requires.typed.0 c.requires.typed.1)

pub returns-in-Err-run_over-clause-overflow : goal.returns-in-Err-run_over-clause-overflow
returns-in-Err-run_over-clause-overflow g c e =
    let is : c.in-Err-run_over.fault ≡ Overflow = cc in
    leaves_range c.args.tables.now (plan_tree c.args.plan) (physical_tree c.in-Ok.both.0) c.in-Ok.ensures.stands c.in-Ok.ensures.tables
    c.in-Ok.both.1.items c.in-Ok.ensures.rows c.requires.typed.0 c.requires.typed.1
    c.in-Ok.ensures.fit
    (subst (λ ts. fit (physical_numbers (physical_tree c.in-Ok.both.0) ts) ≡ false) c.deref.ensures.value (c.in-Err-run_over.ensures.overflow (ap Err is)))

pub returns-in-Ok-rows_in_order-clause-rows : goal.returns-in-Ok-rows_in_order-clause-rows
returns-in-Ok-rows_in_order-clause-rows g c =
    is_answer c.args.tables.now (plan_tree c.args.plan) (physical_tree c.in-Ok.both.0) c.in-Ok.ensures.stands c.in-Ok.ensures.tables
    c.in-Ok.both.1.items c.in-Ok.ensures.rows c.requires.typed.0 c.requires.typed.1
    c.in-Ok-run_over.coded (rows_of c.in-Ok-rows_in_order.rows) (c.in-Ok-run_over.ensures.rows ∙ ap (physical_rows (physical_tree c.in-Ok.both.0)) c.deref.ensures.value)
    c.in-Ok-rows_in_order.ensures

pub returns-in-Ok-rows_in_order-clause-kinds : goal.returns-in-Ok-rows_in_order-clause-kinds
returns-in-Ok-rows_in_order-clause-kinds g c ks typed =
    answer_kinds c.args.tables.now (plan_tree c.args.plan) (physical_tree c.in-Ok.both.0) c.in-Ok.ensures.stands c.in-Ok.ensures.tables
    c.in-Ok.both.1.items c.in-Ok.ensures.rows ks typed
    c.in-Ok-run_over.coded (rows_of c.in-Ok-rows_in_order.rows) (c.in-Ok-run_over.ensures.rows ∙ ap (physical_rows (physical_tree c.in-Ok.both.0)) c.deref.ensures.value)
    c.in-Ok-rows_in_order.ensures
