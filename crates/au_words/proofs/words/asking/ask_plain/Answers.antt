-- What the words of `plain` ask for, from what their table words are.
use Rattle.std.proofs.Common.{sym, drop, map}
use Rattle.au_words.specs.Words.{first_word, later_words, plain, table_fault, named_path, unless}
use Rattle.au_words.specs.CommandLine.{texts}
use Rattle.au_words.proofs.AskedWords.{refused}
use Rattle.au_words.proofs.words.asking.ask_plain.Goals as goal

pub returns-in-Ok-clause-asked : goal.returns-in-Ok-clause-asked
returns-in-Ok-clause-asked c = λ i. unless (c.in-Ok.ensures.fine i) (plain (sym c.in-Ok.ensures.plan i) (sym c.in-Ok.ensures.tables i))

pub returns-in-Err-clause-refused : goal.returns-in-Err-clause-refused
returns-in-Err-clause-refused c =
    let rest = drop 1 (texts c.args.words.now) in
    refused c.in-Err.fault (table_fault (later_words rest)) (plain (first_word rest) (map named_path (later_words rest))) c.in-Err.ensures.refused
