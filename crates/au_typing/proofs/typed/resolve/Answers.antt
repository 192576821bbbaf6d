-- The tree has the kinds of the statement's columns.
use Rattle.std.proofs.Common.{◌≡◌, ◌∙◌, ap, sym}
use Rattle.au_algebra.specs.Trees.{tree}
use Rattle.au_parse.specs.Views.{statement_tree}
use Rattle.au_typing.specs.Queries.{kinds_of_columns, relations, typing}
use Rattle.au_typing.specs.Results.{part_typing}
use Rattle.au_typing.proofs.QueryKinds.{answer_is_typed}
use Rattle.au_typing.proofs.typed.resolve.Goals as goal

pub returns-in_ok-with_columns-in-Ok-clause-typed : goal.returns-in_ok-with_columns-in-Ok-clause-typed
returns-in_ok-with_columns-in-Ok-clause-typed c =
    let tables = relations c.args.schemas.now in
    let t = c.in_ok-with_columns-in-Ok.field-0 in
    let is : part_typing c.in-Ok.part ≡ typing tables (statement_tree c.args.statement.now) = c.in-Ok.ensures in
    answer_is_typed tables (statement_tree c.args.statement.now) (tree t.query) t.kinds.items c.requires (sym (ap (λ s. s.faults) is))
    (c.in_ok-with_columns-in-Ok.ensures.tree ∙ ap (λ s. s.tree) is) (c.in_ok-with_columns-in-Ok.ensures.kinds ∙ ap (λ s. kinds_of_columns s.columns) is)
