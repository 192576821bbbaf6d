-- One aggregate more.
use Rattle.std.proofs.Common.{arith, ◌∙◌}
use Rattle.au_rwgroup.proofs.GroupSteps.{aggs_step}
use Rattle.au_rwgroup.proofs.group_aggregates.member_aggregates.Goals as goal

pub loop-agg-preserved : goal.loop-agg-preserved
loop-agg-preserved c = record {
  aggs =
      aggs_step c.args.aggs.now c.loop-agg.agg-index c.loop-agg-test.true _ c.loop-agg.place c.loop-agg.all.items c.push_members.new.all.items c.in_ok-push_members.ensures
      ∙ c.loop-agg.invariant.aggs;
  place = omega (arith, c.loop-agg.invariant.place);
}
