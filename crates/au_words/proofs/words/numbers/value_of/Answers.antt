use Rattle.std.proofs.Common.{◌∙◌}
use Rattle.au_words.proofs.PlainNumbers.{read}
use Rattle.au_words.proofs.words.numbers.value_of.Goals as goal

pub returns : goal.returns
returns c = c.ok.ensures.value ∙ read c.args.word.now c.parse.result c.requires c.parse.ensures.value.0
