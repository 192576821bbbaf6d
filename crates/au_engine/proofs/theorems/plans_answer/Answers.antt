-- The law for the plan of a statement in which nothing is wrong.
use Rattle.au_engine.proofs.EncodedPlans as proof
use Rattle.au_engine.proofs.theorems.plans_answer.Goals as goal

pub returns : goal.returns
returns c = proof.plans_answer
