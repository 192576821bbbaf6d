use Rattle.au_words.specs.CommandLine.{texts}
use Rattle.au_words.proofs.Found.{words_below, words_have, words_taken}
use Rattle.au_words.proofs.words.reader.matches_of.Goals as goal

pub parse-requires : goal.parse-requires
parse-requires c = words_taken c.args.verb (texts c.args.words.now) c.requires

pub below-requires : goal.below-requires
below-requires c = words_below c.args.verb (texts c.args.words.now) _ c.requires c.in_ok-parse.ensures

pub returns : goal.returns
returns c = words_have c.args.verb (texts c.args.words.now) _ _ c.requires c.in_ok-parse.ensures c.below.ensures
