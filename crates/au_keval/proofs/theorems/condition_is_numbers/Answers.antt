-- The law.
use Rattle.au_keval.proofs.Triples as laws
use Rattle.au_keval.proofs.theorems.condition_is_numbers.Goals as goal

pub returns : goal.returns
returns c = laws.condition_is_numbers
