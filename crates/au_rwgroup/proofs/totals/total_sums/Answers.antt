-- One aggregate more.
use Rattle.std.proofs.Common.{◌∙◌, ◌++◌, ◌+◌, drop}
use Rattle.au_rwgroup.specs.Totals.{total_sums}
use Rattle.au_rwgroup.proofs.Steps.{sums_step}
use Rattle.au_rwgroup.proofs.totals.total_sums.Goals as goal

pub loop-agg-preserved : goal.loop-agg-preserved
loop-agg-preserved c =
    let i = c.loop-agg._agg-index in
    let aggs = c.args.aggs.now in
    let next = c.in_ok-at-2.at.first in
    (λ j. c.in_ok-push_sums.ensures j ++ total_sums next (drop (i + 1) aggs))
    ∙ sums_step aggs i c.loop-agg-test.true c.loop-agg.sums.items c.loop-agg.at.first next c.in_ok-at-2.ensures
    ∙ c.loop-agg.invariant
