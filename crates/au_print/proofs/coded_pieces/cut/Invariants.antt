-- The spans so far reach as far as the next begins.
use Rattle.std.proofs.Common.{◌-◌, ◌≤◌}
use Rattle.au_print.specs.Spans.{AreJoined}
use Rattle.au_print.proofs.coded_pieces.cut.Given as goal

abbrev pub invariant-loop-first : goal.invariant-loop-first
invariant-loop-first l = record {
  joined : AreJoined 0 l.first l.spans.items;
  below : l.first ≤ l.count;
}

abbrev pub decreases-loop-first : goal.decreases-loop-first
decreases-loop-first l = l.count - l.first
