use Rattle.au_cli.proofs.OutputFiles as proof
use Rattle.au_cli.proofs.theorems.outputs_are_answered.Goals as goal

pub returns : goal.returns
returns c = proof.outputs_answered
