use Rattle.au_parse.proofs.SourceRows.{select_view}
use Rattle.au_parse.proofs.queries.select_statement.Goals as goal

pub returns : goal.returns
returns c = select_view c.args.part
