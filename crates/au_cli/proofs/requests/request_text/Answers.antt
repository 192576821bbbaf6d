-- Why the statement is not read is why the request is not answered.
use Rattle.au_words.specs.CommandLine.{seen_request}
use Rattle.au_cli.proofs.TextRefusals.{statement_cause}
use Rattle.au_cli.proofs.requests.request_text.Goals as goal

pub returns-in-Err-clause-refused : goal.returns-in-Err-clause-refused
returns-in-Err-clause-refused g c =
    statement_cause (seen_request c.args.request.now) (g.S.Shelf.files c.args.shelf.now) _ _ _ _ c.in-Err.outcome c.in-Err.ensures.refused
