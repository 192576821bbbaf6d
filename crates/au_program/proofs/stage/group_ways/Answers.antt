-- Both plans give the groups.
use Rattle.std.proofs.Common.{◌≡◌, refl, subst}
use Rattle.au_physical.specs.Physicals.{physical_tree}
use Rattle.au_plain.specs.Plans.{plan_tree}
use Rattle.au_plan.specs.Implements.{Implements}
use Rattle.au_program.specs.Stages.{GroupsBy}
use Rattle.au_program.proofs.Together.{at_equal, at_ok}
use Rattle.au_program.proofs.stage.group_ways.Goals as goal

pub returns-clause-ways : goal.returns-clause-ways
returns-clause-ways c =
    let points = c.args.points in
    let keys = c.args.keys in
    let aggs = c.args.aggs.now in
    let copy = c.in_ok-made.made.0 in
    let of = c.in_ok-made.made.1 in
    let folded = c.in_ok-plans.plans.0 in
    let each = c.in_ok-plans.plans.1 in
    let ways = c.in_ok-ways.ways in
    let by_keys = at_ok c.groups_of-folded.result folded c.in_ok-plans.ensures.values.0 (λ x. GroupsBy points of.layout.columns keys aggs (plan_tree of.plan) (plan_tree x.plan)) c.groups_of-folded.ensures.plan in
    let by_rows = at_ok c.groups_of-each.result each c.in_ok-plans.ensures.values.1 (λ x. GroupsBy points copy.layout.columns keys aggs (plan_tree copy.plan) (plan_tree x.plan)) c.groups_of-each.ensures.plan in
    let columns = at_ok c.copied.result copy c.in_ok-made.ensures.values.0 (λ x. x.layout.columns ≡ c.args.of.layout.columns) c.copied.ensures.columns in
    let plan = at_ok c.copied.result copy c.in_ok-made.ensures.values.0 (λ x. plan_tree x.plan ≡ plan_tree c.args.of.plan) c.copied.ensures.plan in
    record {
      folded = plan_tree folded.plan;
      each = plan_tree each.plan;
      first = ways.0;
      second = ways.1;
      groups_folded = at_equal of c.args.of c.in_ok-made.ensures.values.1 (λ o. GroupsBy points o.layout.columns keys aggs (plan_tree o.plan) (plan_tree folded.plan)) by_keys;
      groups_each =
          subst (λ p. GroupsBy points c.args.of.layout.columns keys aggs p (plan_tree each.plan)) plan
          (subst (λ n. GroupsBy points n keys aggs (plan_tree copy.plan) (plan_tree each.plan)) columns by_rows);
      first_stands = at_ok c.improve.result ways.0 c.in_ok-ways.ensures.values.0 (λ x. Implements (plan_tree folded.plan) (physical_tree x)) c.improve.ensures;
      second_stands = at_ok c.improve-2.result ways.1 c.in_ok-ways.ensures.values.1 (λ x. Implements (plan_tree each.plan) (physical_tree x)) c.improve-2.ensures;
      is = refl;
    }
