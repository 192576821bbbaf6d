-- The law.
use Rattle.au_keval.proofs.Triples as laws
use Rattle.au_keval.proofs.theorems.reading_is_counted.Goals as goal

pub returns : goal.returns
returns c = laws.reading_is_counted
