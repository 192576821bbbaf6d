-- The parts of the plan are those of the definition.
use Rattle.std.proofs.Common.{arith, ◌+◌, ◌∙◌, ap, map}
use Rattle.std.proofs.lemmas.Result.{IfOk-at_ok, IfOk-weaker}
use Rattle.au_plain.specs.PTerms.{pterm, Column}
use Rattle.au_plain.specs.Plans.{PlanTree, plan_tree, Keep}
use Rattle.au_rwexpr.specs.Counts.{positive}
use Rattle.au_rwgroup.specs.Folds.{folds}
use Rattle.au_rwgroup.specs.GroupPlan.{all_member_aggs, all_member_columns, all_result_columns, second_grouping}
use Rattle.au_rwgroup.specs.JoinedPlaces.{places_of}
use Rattle.au_rwgroup.proofs.PlanParts.{PlacesAre, plan_is}
use Rattle.au_rwgroup.proofs.grouping.group_over.Goals as goal

pub returns-clause-plan : goal.returns-clause-plan
returns-clause-plan c =
    let found = c.in_ok-kept in
    let placed = c.in_ok-places in
    let parts = c.in_ok-shown in
    let made = c.in_ok-made in
    let places = placed.places in
    let joined = places.joined in
    let columns = c.args.layout.now.columns in
    let k = c.args.keys in
    let aggs = c.args.aggs.now in
    let shown = parts.shown.items in
    let ranges = map pterm parts.columns.items in
    let groups = plan_tree parts.groups in
    let at = placed.ensures.values.0 in
    let both_are = IfOk-at_ok _ parts.ensures.values.1 c.both.ensures.values in
    let tests_is = IfOk-at_ok _ at c.of-places.ensures.tests in
    let there_is = IfOk-at_ok _ at c.of-places.ensures.there in
    let aggs_are = IfOk-at_ok _ at c.of-places.ensures.aggs in
    let are : PlacesAre k aggs found.kept places.triple.first joined.keys joined.fold joined.tests places.there places.aggs =
    record {
      kept_is = IfOk-at_ok _ found.ensures.values.0 c.kept_columns.ensures;
      counts_is = IfOk-at_ok _ at c.of-places.ensures.triple;
      keys_is = IfOk-at_ok _ at c.of-places.ensures.keys;
      fold_is = IfOk-at_ok _ at c.of-places.ensures.fold;
      tests_is = omega (arith, tests_is, aggs_are);
      there_is = omega (arith, there_is, aggs_are);
      number_is = aggs_are;
    } in
    let ranges_are = IfOk-at_ok _ both_are.0 c.all_result_columns-columns.ensures
    ∙ (λ i. all_result_columns (positive (Column (c.tests.ensures.there i))) (positive (Column (c.tests.ensures.guess i))) joined.fold aggs) in
    let grouped : PlanTree → PlanTree → PlanTree = λ bs p.
    second_grouping joined.keys joined.fold (all_member_columns (places_of joined) (places.triple.first + 3) aggs) (all_member_aggs (joined.tests + 4) aggs) bs (folds c.args.how columns joined.keys aggs p) in
    let groups_are = IfOk-at_ok _ both_are.1 c.with_members-groups.ensures ∙ ap (λ r. grouped (plan_tree r.0) (plan_tree r.1)) placed.ensures.values.1
    ∙ ap (λ r. grouped (plan_tree r.0) (plan_tree r.1)) found.ensures.values.1 in
    IfOk-weaker c.keep.result _ _ (λ p is.
    (plan_is c.args.how columns k aggs found.kept places.triple.first joined.keys joined.fold joined.tests places.there places.aggs are (plan_tree c.args.boxes) (plan_tree c.args.of) groups (plan_tree p) shown ranges ranges_are
    (IfOk-at_ok _ parts.ensures.values.0 c.result_places-shown.ensures) groups_are
    (is ∙ ap (λ v. Keep v.items (plan_tree made.made)) made.ensures.values.1 ∙ ap (Keep shown) (IfOk-at_ok _ made.ensures.values.0 c.extend_all.ensures)))) c.keep.ensures
