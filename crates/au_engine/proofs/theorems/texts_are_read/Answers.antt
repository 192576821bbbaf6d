use Rattle.au_engine.proofs.PlainTables as proof
use Rattle.au_engine.proofs.theorems.texts_are_read.Goals as goal

pub returns : goal.returns
returns c = proof.text_read
