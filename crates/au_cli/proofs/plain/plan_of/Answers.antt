-- A line is a plan where it is the text of one.
use Rattle.std.proofs.Common.{◌∙◌, ap, sym, subst, Option, Some, Err, List, ℕ}
use Rattle.std.specs.Prelude.{option_map}
use Rattle.std.specs.Borrow.{Bor}
use Rattle.au_plain.specs.Plans.{plan_tree}
use Rattle.au_cli.specs.Plain.{line_plan}
use Rattle.au_cli.specs.PlanCauses.{LineCause}
use Rattle.au_cli.proofs.PlanLines.{plan_line, text_cause}
use Rattle.au_cli.proofs.plain.plan_of.Goals as goal

pub returns-in-Ok-clause-plan : goal.returns-in-Ok-clause-plan
returns-in-Ok-clause-plan c =
    ap (λ (o : Option (Bor (List ℕ))). line_plan (option_map (λ l. l.now) o)) c.in-Some.is
    ∙ plan_line c.in-Some.text.now (plan_tree c.in-Ok.plan) c.in-Ok.ensures.flat (record { widths = c.in-Ok.ensures.found.0; numbers = c.in-Ok.ensures.numbers; text = c.in-Ok.ensures.found.1 })

pub returns-in-Err-clause-refused : goal.returns-in-Err-clause-refused
returns-in-Err-clause-refused c =
    let line = ap (λ (o : Option (Bor (List ℕ))). option_map (λ l. l.now) o) c.in-Some.is in
    subst (λ l. LineCause l c.ended_text.result) (sym line)
    (subst (λ o. LineCause (Some c.in-Some.text.now) o) (sym c.ended_text.ensures)
    (text_cause c.in-Some.text.now c.in-Err.fault (λ e. c.in-Err.ensures.text (ap Err e)) (λ e. c.in-Err.ensures.deep (ap Err e)) (λ e. c.in-Err.ensures.typed (ap Err e))))
