-- What is given over the tables' files, and why nothing is.
use Rattle.std.proofs.Common.{◌≡◌, ◌∙◌, sym, ap, subst, map}
use Rattle.au_plain.specs.PlanKinds.{IsTypedPlan}
use Rattle.au_plain.specs.Plans.{plan_tree}
use Rattle.au_engine.specs.Exchange.{PlainCause, plain_text, value_kinds}
use Rattle.au_words.specs.CommandLine.{seen_table}
use Rattle.au_cli.specs.PlanCauses.{OverCause}
use Rattle.au_cli.proofs.PlanFiles.{files_over, over_gives, plain_over}
use Rattle.au_cli.proofs.plain.over_tables.Goals as goal

pub returns-in-Err-clause-refused : goal.returns-in-Err-clause-refused
returns-in-Err-clause-refused g c =
    files_over (g.S.Shelf.files c.args.shelf.now) c.args.file.size (map seen_table c.args.words.now) (plan_tree c.args.file.plan) _ _ _ _ c.in-Err.outcome c.in-Err.ensures.refused

pub returns-in-Ok-plain_answer-clause-text : goal.returns-in-Ok-plain_answer-clause-text
returns-in-Ok-plain_answer-clause-text g c =
    let p = plan_tree c.args.file.plan in
    let words = map seen_table c.args.words.now in
    over_gives (λ ts q. c.in-Ok-plain_answer.text.items ≡ plain_text ts q) (g.S.Shelf.files c.args.shelf.now) c.args.file.size words p c.in-Ok.tables.items c.in-Ok.ensures.tables
    (subst (λ ts. IsTypedPlan (value_kinds ts) p) c.as_slice.ensures.value c.in-Ok-plain_answer.ensures.typed)
    (c.in-Ok-plain_answer.ensures.text ∙ ap (λ ts. plain_text ts p) c.as_slice.ensures.value)

pub returns-clause-refused : goal.returns-clause-refused
returns-clause-refused g c =
    let p = plan_tree c.args.file.plan in
    let words = map seen_table c.args.words.now in
    let told = g.S.Shelf.files c.args.shelf.now in
    let cause = subst (λ ts. PlainCause ts p c.in-Err-plain_answer.fault) c.as_slice.ensures.value c.in-Err-plain_answer.ensures.refused in
    subst (λ o. OverCause told c.args.file.size words p (g.S.Shelf.faults c.args.shelf.now) (g.S.Shelf.faults c.read_tables.new.shelf) (g.S.Shelf.absences c.args.shelf.now) (g.S.Shelf.absences c.read_tables.new.shelf) o) (sym c.ended.ensures)
    (plain_over told c.args.file.size words p _ _ _ _ c.in-Ok.tables.items c.in-Err-plain_answer.fault c.in-Ok.ensures.tables cause)
