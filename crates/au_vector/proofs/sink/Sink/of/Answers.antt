-- No groups.
use Rattle.au_vector.proofs.SinkLaws.{empty_held}
use Rattle.au_vector.proofs.sink.Sink.of.Goals as goal

pub invariant_of-result-in-Groups : goal.invariant_of-result-in-Groups
invariant_of-result-in-Groups c = empty_held c.in-Groups.keys.now c.in-Groups.aggs.now c.in_ok-groups-in-Groups.groups c.in_ok-groups-in-Groups.ensures
