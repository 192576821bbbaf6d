-- The plan is typed, so it is wide, and what the coded plan gives are the codes of its rows.
use Rattle.std.proofs.Common.{◌≡◌, ◌∙◌, ap, subst, sym}
use Rattle.au_codes.specs.Codes.{coded_tables}
use Rattle.au_codes.specs.TextCodes.{text_code}
use Rattle.au_physical.specs.Physicals.{physical_tree}
use Rattle.au_vector.specs.Widths.{AreWide}
use Rattle.au_exec.proofs.CodedRuns.{runs_stand}
use Rattle.au_exec.proofs.running.run_codes.Goals as goal

pub run_tables-made-requires-clause-wide : goal.run_tables-made-requires-clause-wide
run_tables-made-requires-clause-wide g c κs within =
    let code = text_code c.args.book.now in
    let p = physical_tree c.args.plan in
    let ts = c.args.sources.now in
    subst (λ q. AreWide q (coded_tables code ts)) (sym c.coded_plan-coded.ensures) (c.typed_plans_are_wide.ensures code p ts c.requires.ready.1.typed)

pub returns : goal.returns
returns g c =
    let p = physical_tree c.args.plan in
    runs_stand c.args.book.now c.requires.ready.0 p c.args.sources.now (physical_tree c.coded_plan-coded.result) c.run_tables-made.result c.first_of.result
    c.ready_plans_stand.ensures c.requires.ready.1 c.coded_plan-coded.ensures c.run_tables-made.ensures c.first_of.ensures
