-- The printed counts are those of the guess world.
use Rattle.std.proofs.Common.{ap, Err, length, sym, ◌∙◌}
use Rattle.au_parse.specs.Views.{statement_tree}
use Rattle.au_engine.specs.Answers.{guess_answer, guess_answer_fits}
use Rattle.au_cli.proofs.GuessFits.{guess_left, guess_printed}
use Rattle.au_cli.proofs.AnswerColumns.{columns_fit}
use Rattle.au_cli.proofs.answering.guess_world_text.Goals as goal

pub guess_text-requires-clause-columns : goal.guess_text-requires-clause-columns
guess_text-requires-clause-columns g c =
    ap length c.as_slice-2.ensures.value
    ∙ columns_fit c.args.tables.now (statement_tree c.args.statement.now) c.in-Ok.guess.names.items c.in-Ok.guess.kinds.items c.in-Ok.ensures.names c.in-Ok.ensures.kinds
    ∙ ap length (sym c.as_slice.ensures.value)

pub returns-in-Ok-guess_text-clause-printed : goal.returns-in-Ok-guess_text-clause-printed
returns-in-Ok-guess_text-clause-printed g c =
    guess_printed c.in-Ok.guess.rows (guess_answer c.args.tables.now (statement_tree c.args.statement.now)) c.in-Ok.ensures.rows c.in-Ok-guess_text.ensures.fit

pub returns-in-Err-Overflow-clause-refused : goal.returns-in-Err-Overflow-clause-refused
returns-in-Err-Overflow-clause-refused g c = (
  c.in-Ok.ensures.typed,
  guess_left (guess_answer_fits c.args.tables.now (statement_tree c.args.statement.now)) c.in-Ok.guess.rows (guess_answer c.args.tables.now (statement_tree c.args.statement.now))
      c.in-Ok.ensures.rows (c.in-Err-Overflow.ensures.overflow (ap Err c.in-Err-Overflow.field-0-is)),
)
