-- The answer has as many kinds as names.
use Rattle.au_parse.specs.Views.{statement_tree}
use Rattle.au_cli.proofs.AnswerColumns.{columns_fit}
use Rattle.au_cli.proofs.answering.csv_answer.Goals as goal

pub coded_text-requires-clause-columns : goal.coded_text-requires-clause-columns
coded_text-requires-clause-columns g c κs within =
    columns_fit c.args.tables.now (statement_tree c.args.statement.now) c.in-Ok.answer.names.items c.in-Ok.answer.kinds.items c.in-Ok.ensures.names c.in-Ok.ensures.kinds
