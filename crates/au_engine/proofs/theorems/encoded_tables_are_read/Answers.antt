use Rattle.au_engine.proofs.WritableRows as proof
use Rattle.au_engine.proofs.theorems.encoded_tables_are_read.Goals as goal

pub returns : goal.returns
returns c = proof.encoded_read
