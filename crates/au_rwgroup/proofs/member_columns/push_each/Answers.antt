-- One aggregate more.
use Rattle.std.proofs.Common.{arith, ◌+◌, ◌++◌, ◌∙◌, drop, map}
use Rattle.au_plain.specs.PTerms.{pterm}
use Rattle.au_rwgroup.specs.GroupPlan.{each_member_columns}
use Rattle.au_rwgroup.specs.JoinedPlaces.{places_of}
use Rattle.au_rwgroup.proofs.GroupSteps.{kept_within, members_step}
use Rattle.au_rwgroup.proofs.member_columns.push_each.Goals as goal

pub loop-agg-preserved : goal.loop-agg-preserved
loop-agg-preserved c =
    let aggs = c.args.aggs.now in
    let i = c.loop-agg.agg-index in
    let places = places_of c.args.joined in
    let kept = c.loop-agg.kept in
    let value = c.loop-agg.value in
    let old = map pterm c.loop-agg.columns.items in
    let new = map pterm c.push_member.new.columns.items in
    record {
      columns =
          (λ j. new ++ each_member_columns places (c.behind_kept-kept.ensures j) (value + 5) (drop (i + 1) aggs))
          ∙ members_step aggs i c.loop-agg-test.true _ places kept value old new c.in_ok-push_member.ensures
          ∙ c.loop-agg.invariant.columns;
      place = omega (arith, c.loop-agg.invariant.place, kept_within kept _ _ c.behind_kept-kept.ensures);
      value = omega (arith, c.loop-agg.invariant.value);
    }
