-- The next aggregate is added where it is marked.
use Rattle.au_passes.proofs.Marks.{next_chosen}
use Rattle.au_passes.proofs.reads.chosen_aggs.Goals as goal

pub loop-i-preserved : goal.loop-i-preserved
loop-i-preserved c =
    next_chosen c.args.marks.now c.args.aggs.now c.loop-i.i _ c.loop-i.read.items _ _ _ c.loop-i-test.true c.is_marked.ensures
    c.in_ok-push_if.ensures c.loop-i.invariant
