use Rattle.au_words.proofs.TableWords.{cut_at_first}
use Rattle.au_words.proofs.words.table_words.parts.Goals as goal

pub returns : goal.returns
returns c = cut_at_first c.args.word.now c.split_once.result c.split_once.ensures.cases
