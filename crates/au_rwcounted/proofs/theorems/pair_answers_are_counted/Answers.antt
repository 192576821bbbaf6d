-- The law.
use Rattle.au_rwcounted.proofs.PairAnswers.{pair_answers}
use Rattle.au_rwcounted.proofs.theorems.pair_answers_are_counted.Goals as goal

pub returns : goal.returns
returns c = pair_answers
