-- Why the plan's file or those of the words are not answered.
use Rattle.std.proofs.Common.{◌≡◌, ◌≤◌, rules, arith, length, map, subst}
use Rattle.std.proofs.lemmas.List.{length-map}
use Rattle.au_plain.specs.Plans.{plan_tree}
use Rattle.au_engine.specs.Exchange.{plain_text}
use Rattle.au_words.specs.CommandLine.{seen_table}
use Rattle.au_cli.specs.Files.{greatest_files}
use Rattle.au_cli.specs.PlanCauses.{OverCause, OverGives}
use Rattle.au_cli.proofs.PlanFiles.{over_cause, plan_cause, plan_gives}
use Rattle.au_cli.proofs.plain.plain_text.Goals as goal

pub returns-in-Err-clause-refused : goal.returns-in-Err-clause-refused
returns-in-Err-clause-refused g c =
    let few : length (map seen_table c.args.words.now) ≤ greatest_files = search (rules, arith, length-map) in
    plan_cause c.args.path.now (map seen_table c.args.words.now) (g.S.Shelf.files c.args.shelf.now) _ _ _ _ c.in-Err.outcome few c.in-Err.ensures.refused

pub returns-in-Ok-over_tables-clause-text : goal.returns-in-Ok-over_tables-clause-text
returns-in-Ok-over_tables-clause-text g c =
    let few : length (map seen_table c.args.words.now) ≤ greatest_files = search (rules, arith, length-map) in (
      few,
      plan_gives (λ ts p. c.in-Ok-over_tables.text.items ≡ plain_text ts p) (g.S.Shelf.files c.args.shelf.now) c.args.path.now (map seen_table c.args.words.now) c.in-Ok.file.size (plan_tree c.in-Ok.file.plan)
          c.in-Ok.ensures.plan
          (subst (λ told. OverGives told c.in-Ok.file.size (map seen_table c.args.words.now) (plan_tree c.in-Ok.file.plan) (λ ts p. c.in-Ok-over_tables.text.items ≡ plain_text ts p)) c.in-Ok.ensures.files c.in-Ok-over_tables.ensures.text),
    )

pub returns-in-Err-over_tables-clause-refused : goal.returns-in-Err-over_tables-clause-refused
returns-in-Err-over_tables-clause-refused g c =
    let few : length (map seen_table c.args.words.now) ≤ greatest_files = search (rules, arith, length-map) in
    over_cause c.args.path.now (map seen_table c.args.words.now) (g.S.Shelf.files c.args.shelf.now) _ _ _ _ _ _ c.in-Ok.file.size (plan_tree c.in-Ok.file.plan) c.in-Err-over_tables.outcome few
    c.in-Ok.ensures.counts.0 c.in-Ok.ensures.counts.1 c.in-Ok.ensures.plan
    (subst (λ told. OverCause told c.in-Ok.file.size (map seen_table c.args.words.now) (plan_tree c.in-Ok.file.plan) (g.S.Shelf.faults c.file_plan.new.shelf) (g.S.Shelf.faults c.over_tables.new.shelf) (g.S.Shelf.absences c.file_plan.new.shelf) (g.S.Shelf.absences c.over_tables.new.shelf) c.in-Err-over_tables.outcome)
    c.in-Ok.ensures.files c.in-Err-over_tables.ensures.refused)
