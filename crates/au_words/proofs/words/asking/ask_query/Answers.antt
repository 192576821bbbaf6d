-- What a query's words ask for, from what their table words are.
use Rattle.std.proofs.Common.{sym, drop}
use Rattle.au_words.specs.Words.{later_words, query, request_of, table_fault, unless}
use Rattle.au_words.specs.CommandLine.{texts}
use Rattle.au_words.proofs.AskedWords.{refused}
use Rattle.au_words.proofs.words.asking.ask_query.Goals as goal

pub returns-in-Ok-clause-asked : goal.returns-in-Ok-clause-asked
returns-in-Ok-clause-asked c = λ i. unless (c.in-Ok.ensures.fine i) (query (sym c.in-Ok.ensures.request i))

pub returns-in-Err-clause-refused : goal.returns-in-Err-clause-refused
returns-in-Err-clause-refused c =
    let rest = drop 1 (texts c.args.words.now) in
    refused c.in-Err.fault (table_fault (later_words rest)) (query (request_of c.args.command rest)) c.in-Err.ensures.refused
