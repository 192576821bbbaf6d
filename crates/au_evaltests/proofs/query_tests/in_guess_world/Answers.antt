-- There is a kind for each name.
use Rattle.std.proofs.Common.{ap, length, sym, ◌∙◌}
use Rattle.au_parse.specs.Views.{statement_tree}
use Rattle.au_evaltests.proofs.AnswerColumns.{as_many_kinds}
use Rattle.au_evaltests.proofs.query_tests.in_guess_world.Goals as goal

pub guess_text-requires-clause-columns : goal.guess_text-requires-clause-columns
guess_text-requires-clause-columns g c =
    ap length c.as_slice-in-Ok.ensures.value
    ∙ as_many_kinds c.args.tables.now (statement_tree c.args.statement.now) c.in-Ok.answer.names.items c.in-Ok.answer.kinds.items c.in-Ok.ensures.names c.in-Ok.ensures.kinds
    ∙ ap length (sym c.as_slice.ensures.value)
