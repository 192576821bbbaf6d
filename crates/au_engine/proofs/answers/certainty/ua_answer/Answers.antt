-- The tree is positive, and each row has as many values as there are names.
use Rattle.std.proofs.Common.{◌≡◌, ap, ◌∙◌}
use Rattle.std.proofs.lemmas.Result.{IfOk-at_ok}
use Rattle.au_algebra.specs.Positive.{is_positive}
use Rattle.au_parse.specs.Views.{statement_tree}
use Rattle.au_typing.specs.Queries.{typing}
use Rattle.au_engine.specs.Answers.{relations_of}
use Rattle.au_engine.proofs.PairTables.{pairs_named}
use Rattle.au_engine.proofs.PositiveTrees.{positive_tree}
use Rattle.au_engine.proofs.answers.certainty.ua_answer.Goals as goal

pub ua_rows-rows-requires-clause-positive : goal.ua_rows-rows-requires-clause-positive
ua_rows-rows-requires-clause-positive g c κs within =
    ap is_positive c.in-Ok.ensures.query ∙ positive_tree (relations_of c.args.tables.now) (statement_tree c.args.statement.now) c.requires.positive

pub returns-in-Ok-beside-clause-widths : goal.returns-in-Ok-beside-clause-widths
returns-in-Ok-beside-clause-widths g c =
    let parts = c.in-Ok-beside.parts in
    let same : parts.1.0.items ≡ c.in-Ok.typed.names.items = ap (λ r. r.0.items) c.in-Ok-beside.ensures.values.1 ∙ ap (λ v. v.items) c.names_and_kinds.ensures.0 in
    pairs_named parts.1.0.items c.in-Ok.typed.kinds.items (typing (relations_of c.args.tables.now) (statement_tree c.args.statement.now)).columns parts.0
    (same ∙ c.in-Ok.ensures.names) c.in-Ok.ensures.kinds (IfOk-at_ok _ c.in-Ok-beside.ensures.values.0 c.ua_rows-rows.ensures.widths)
