use Rattle.std.proofs.Common.{◌≡◌, take}
use Rattle.au_blocks.specs.Labels.{lent_labels}
use Rattle.au_blocks.specs.Order.{labels, lent_numbered, numbered}
use Rattle.au_blocks.proofs.GatherStep.{tallies}
use Rattle.au_blocks.proofs.gather.gather_scattered.Given as goal

-- the labels of the records so far, what is gathered under each, and the alternatives behind their numbers
abbrev pub invariant-loop-number : goal.invariant-loop-number
invariant-loop-number l = record {
  labels : lent_labels l.labels ≡ labels (take l.number l.rows);
  tallies : l.tallies.items ≡ tallies l.fn.format (take l.number l.rows);
  numbered : lent_numbered l.alternatives.items ≡ numbered l.fn.format (take l.number l.rows);
}
