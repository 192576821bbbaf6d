-- One aggregate more.
use Rattle.std.proofs.Common.{◌∙◌}
use Rattle.au_rwgroup.proofs.GroupSteps.{kept_step}
use Rattle.au_rwgroup.proofs.group_aggregates.kept_aggregates.Goals as goal

pub loop-agg-preserved : goal.loop-agg-preserved
loop-agg-preserved c =
    kept_step c.args.aggs.now c.loop-agg.agg-index c.loop-agg-test.true _ c.loop-agg.kept.items c.push_kept.new.kept.items c.in_ok-push_kept.ensures
    ∙ c.loop-agg.invariant
