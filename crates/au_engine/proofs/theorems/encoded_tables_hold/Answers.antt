use Rattle.au_engine.proofs.EncodedGuesses as proof
use Rattle.au_engine.proofs.theorems.encoded_tables_hold.Goals as goal

pub returns : goal.returns
returns c = proof.hold_encoded
