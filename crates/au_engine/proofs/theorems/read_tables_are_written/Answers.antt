use Rattle.au_engine.proofs.ReadValues as proof
use Rattle.au_engine.proofs.theorems.read_tables_are_written.Goals as goal

pub returns : goal.returns
returns c = proof.read_good
