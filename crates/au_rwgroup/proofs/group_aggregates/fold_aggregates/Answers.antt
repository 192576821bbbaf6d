-- One aggregate more.
use Rattle.std.proofs.Common.{◌≡◌, ◌∙◌, ◌++◌, ◌+◌, arith, drop}
use Rattle.au_rwgroup.specs.Folds.{fold_aggs}
use Rattle.au_rwgroup.proofs.GroupSteps.{folds_step}
use Rattle.au_rwgroup.proofs.group_aggregates.fold_aggregates.Goals as goal

pub loop-agg-preserved : goal.loop-agg-preserved
loop-agg-preserved c =
    let next : c.in-Some.next ≡ c.loop-agg.place + 5 = omega (arith, c.in-Some.ensures) in
    (λ j. c.push.new.self.items ++ fold_aggs (next j) (drop (c.loop-agg.agg-index + 1) c.args.aggs.now))
    ∙ folds_step c.args.aggs.now c.loop-agg.agg-index c.loop-agg-test.true _ c.loop-agg.place c.loop-agg.all.items c.push_members.new.all.items c.push.new.self.items c.in_ok-push_members.ensures c.in_ok-push.ensures.items
    ∙ c.loop-agg.invariant
