-- What is refused puts nothing.
use Rattle.au_words.specs.Words.{asked_of}
use Rattle.au_cli.specs.Causes.{fault_counts}
use Rattle.au_cli.proofs.Endings.{appends_nothing, refused_ends}
use Rattle.au_cli.proofs.top.answer.Goals as goal

pub returns-in-Err-clause-ends : goal.returns-in-Err-clause-ends
returns-in-Err-clause-ends g c =
    refused_ends (asked_of c.args.words.now) (g.S.Shelf.files c.args.shelf.now) (fault_counts _ _ _ _ _ _) _ _ c.in-Err.outcome c.in-Err.ensures.refused
    (appends_nothing (g.O.Sink.written c.args.out.now))
