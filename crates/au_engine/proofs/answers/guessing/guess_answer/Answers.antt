-- Each row has as many values as there are names.
use Rattle.std.proofs.Common.{◌≡◌, ap, ◌∙◌}
use Rattle.std.proofs.lemmas.Result.{IfOk-at_ok}
use Rattle.au_parse.specs.Views.{statement_tree}
use Rattle.au_typing.specs.Queries.{typing}
use Rattle.au_engine.specs.Answers.{relations_of}
use Rattle.au_engine.proofs.GuessTables.{named_columns}
use Rattle.au_engine.proofs.answers.guessing.guess_answer.Goals as goal

pub returns-in-Ok-beside-clause-widths : goal.returns-in-Ok-beside-clause-widths
returns-in-Ok-beside-clause-widths g c =
    let parts = c.in-Ok-beside.parts in
    let same : parts.1.0.items ≡ c.in-Ok.typed.names.items = ap (λ r. r.0.items) c.in-Ok-beside.ensures.values.1 ∙ ap (λ v. v.items) c.names_and_kinds.ensures.0 in
    named_columns parts.1.0.items c.in-Ok.typed.kinds.items (typing (relations_of c.args.tables.now) (statement_tree c.args.statement.now)).columns parts.0
    (same ∙ c.in-Ok.ensures.names) c.in-Ok.ensures.kinds (IfOk-at_ok _ c.in-Ok-beside.ensures.values.0 c.guess_rows-rows.ensures.widths)
