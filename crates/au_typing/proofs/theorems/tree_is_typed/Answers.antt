-- The law for the tree of a statement in which nothing is wrong.
use Rattle.au_typing.proofs.QueryKinds as proof
use Rattle.au_typing.proofs.theorems.tree_is_typed.Goals as goal

pub returns : goal.returns
returns c = proof.tree_is_typed
