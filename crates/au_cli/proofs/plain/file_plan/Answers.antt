-- What was read of the file decides which plan it gives.
use Rattle.std.proofs.Common.{◌≡◌, ◌∙◌, arith, length, sym, ap, subst, Some, Ok}
use Rattle.au_plain.specs.Plans.{plan_tree}
use Rattle.au_cli.specs.Plain.{line_of, line_plan}
use Rattle.au_cli.specs.PlanCauses.{LineCause}
use Rattle.au_cli.proofs.PlanFiles.{line_cause, plan_read, read_plan_cause}
use Rattle.au_cli.proofs.plain.file_plan.Goals as goal

pub returns-in-Err-clause-refused : goal.returns-in-Err-clause-refused
returns-in-Err-clause-refused g c =
    read_plan_cause (g.S.Shelf.files c.args.shelf.now) c.args.path.now _ _ _ _ c.in-Err.outcome c.in-Err.ensures.refused

pub returns-in-Ok-plan_of-clause-plan : goal.returns-in-Ok-plan_of-clause-plan
returns-in-Ok-plan_of-clause-plan g c =
    let line = c.line_of.ensures ∙ ap line_of c.as_slice.ensures.value in
    let size : length c.in-Ok.bytes.items ≡ c.len.result = grind (arith, c.len.ensures) in (
      Some c.in-Ok.bytes.items,
      c.in-Ok.ensures.read,
      (plan_read c.in-Ok.bytes.items (Ok (plan_tree c.in-Ok-plan_of.plan)) c.in-Ok.ensures.bytes (ap line_plan (sym line) ∙ c.in-Ok-plan_of.ensures.plan), size),
    )

pub returns-clause-refused : goal.returns-clause-refused
returns-clause-refused g c =
    let line = c.line_of.ensures ∙ ap line_of c.as_slice.ensures.value in
    line_cause (g.S.Shelf.files c.args.shelf.now) c.args.path.now _ _ _ _ c.in-Ok.bytes.items c.in-Err-plan_of.outcome c.in-Ok.ensures.read c.in-Ok.ensures.bytes
    (subst (λ l. LineCause l c.in-Err-plan_of.outcome) line c.in-Err-plan_of.ensures.refused)
