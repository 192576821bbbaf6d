-- The law.
use Rattle.au_ua.proofs.CountedAnswers as laws
use Rattle.au_ua.proofs.theorems.ua_answer_is_counted.Goals as goal

pub returns : goal.returns
returns c = laws.ua_answer_is_counted
