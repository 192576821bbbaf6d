-- Each plan gives the groups that are asked for.
use Rattle.std.specs.Prelude.{IfOk}
use Rattle.std.proofs.Common.{subst, sym}
use Rattle.au_plain.specs.Plans.{plan_tree}
use Rattle.au_program.specs.Stages.{GroupsBy}
use Rattle.au_program.proofs.stage.groups_of.Goals as goal

pub returns-then-points-clause-plan : goal.returns-then-points-clause-plan
returns-then-points-clause-plan c =
    let of = c.args.of in
    subst (λ points. IfOk c.group_by_points_of.result (λ p. GroupsBy points of.layout.columns c.args.keys c.args.aggs.now (plan_tree of.plan) (plan_tree p.plan))) (sym c.if-points.true)
    c.group_by_points_of.ensures.plan

pub returns-else-points-clause-plan : goal.returns-else-points-clause-plan
returns-else-points-clause-plan c =
    let of = c.args.of in
    subst (λ points. IfOk c.group_of.result (λ p. GroupsBy points of.layout.columns c.args.keys c.args.aggs.now (plan_tree of.plan) (plan_tree p.plan))) (sym c.if-points.false)
    c.group_of.ensures.plan
