-- The plan of the tree, of what is shown of it, and as it is run.
use Rattle.std.proofs.Common.{◌≡◌, sym}
use Rattle.au_algebra.specs.Trees.{tree}
use Rattle.au_physical.specs.Physicals.{physical_tree}
use Rattle.au_plain.specs.Plans.{plan_tree}
use Rattle.au_typing.specs.Queries.{relations, table_kinds}
use Rattle.au_program.specs.Programs.{IsReady, PlansTree}
use Rattle.au_program.specs.Stages.{Shows}
use Rattle.au_program.specs.declared.sources.Sources.TheVariants as sources
use Rattle.au_program.proofs.Together.{at_equal, at_ok}
use Rattle.au_program.proofs.program.program_of.Goals as goal

pub returns : goal.returns
returns c =
    let kinds = table_kinds (relations c.args.schemas.now) in
    let q = tree c.args.query.now in
    let of = c.in_ok-of.of in
    let own = c.in_ok-of.own in
    let shown = c.in_ok-shown.shown in
    let held = c.in_ok-shown.own in
    let ready = c.in_ok-ready.ready in
    let first = at_ok c.planned-first.result of c.in_ok-of.ensures.values.0 (λ x. PlansTree c.args.rules kinds q sources.Nothing c.planned-first.new.sources (plan_tree x.plan) x.layout.columns) c.planned-first.ensures in
    let plans = at_equal c.planned-first.new.sources own (sym c.in_ok-of.ensures.values.1) (λ s. PlansTree c.args.rules kinds q sources.Nothing s (plan_tree of.plan) of.layout.columns) first in
    record {
      own = own;
      of = plan_tree of.plan;
      shown = plan_tree shown.plan;
      columns = of.layout.columns;
      plans = plans;
      shows = at_ok c.combined_plan-made.result shown c.in_ok-shown.ensures.values.0 (λ x. Shows c.args.combined of.layout.columns (plan_tree of.plan) (plan_tree x.plan)) c.combined_plan-made.ensures.plan;
      wide = at_ok c.combined_plan-made.result shown c.in_ok-shown.ensures.values.0 (λ x. x.layout.columns ≡ of.layout.columns) c.combined_plan-made.ensures.columns;
      ready = at_equal held own c.in_ok-shown.ensures.values.1 (λ s. IsReady s ready.sources (plan_tree shown.plan) (physical_tree ready.plan)) c.in_ok-ready.ensures;
    }
