-- All operators of the chain were taken.
use Rattle.std.proofs.Common.{ap, ◌∙◌}
use Rattle.au_physical.specs.Physicals.{physical_tree}
use Rattle.au_columns.specs.Chains.{lent_trees}
use Rattle.au_columns.proofs.Chains.{chain_ran}
use Rattle.au_columns.proofs.chain.run_chain.Goals as goal

pub returns : goal.returns
returns c =
    chain_ran (physical_tree c.args.plan.now) (lent_trees c.deref.result.now) c.args.batch c.worked.result c.requires (ap lent_trees c.deref.ensures.value ∙ c.in-Ok.ensures) c.worked.ensures
