-- It stands for any number of counts.
use Rattle.au_program.proofs.counted_steps.union_of.Goals as goal

pub returns-clause-plan : goal.returns-clause-plan
returns-clause-plan c = c.in_ok-plan.ensures.gives c.args.counts
