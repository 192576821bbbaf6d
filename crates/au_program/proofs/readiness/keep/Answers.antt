-- A table that was read whole is read as the plan keeps it.
use Rattle.std.proofs.Common.{rules}
use Rattle.au_physical.specs.Physicals.{physical_tree}
use Rattle.au_program.proofs.NarrowedSources.{keeps_less}
use Rattle.au_program.proofs.readiness.keep.Goals as goal

pub returns : goal.returns
returns c whole =
    keeps_less c.args.number c.args.kept.now c.in_ok-kept.field-0 whole (physical_tree c.args.plan.now) (physical_tree c.narrow_scans.new.plan)
    (search (rules, c.is_some.ensures, c.if-is_some.ensures, c.if-is_some.false)) c.in_ok-kept.ensures
