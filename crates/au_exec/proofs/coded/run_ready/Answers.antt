-- What the run gives are codes of the plan's rows.
use Rattle.std.proofs.Common.{◌∙◌}
use Rattle.au_physical.specs.Physicals.{physical_tree}
use Rattle.au_exec.proofs.HeldCodes.{given_codes, given_rows}
use Rattle.au_exec.proofs.coded.run_ready.Goals as goal

pub of-requires : goal.of-requires
of-requires g c =
    given_codes c.args.ready.book c.args.ready.kinds.items (physical_tree c.args.plan) c.args.sources.now c.in-Ok.batch c.ready_plans_stand.ensures c.requires.ready
    c.in-Ok.ensures.0

pub returns-in-Ok-clause-rows : goal.returns-in-Ok-clause-rows
returns-in-Ok-clause-rows g c =
    c.of.ensures
    ∙ given_rows c.args.ready.book c.args.ready.kinds.items (physical_tree c.args.plan) c.args.sources.now c.in-Ok.batch c.ready_plans_stand.ensures c.requires.ready
    c.in-Ok.ensures.0
