use Rattle.au_engine.proofs.GuessCounts as proof
use Rattle.au_engine.proofs.theorems.read_rows_are_few.Goals as goal

pub returns : goal.returns
returns c = proof.size_small
