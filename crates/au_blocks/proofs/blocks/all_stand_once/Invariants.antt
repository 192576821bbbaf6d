-- The blocks so far stand once, and whether all do is told by those that are left.
use Rattle.std.proofs.Common.{◌≡◌, drop}
use Rattle.std.specs.List.{list_all}
use Rattle.au_blocks.specs.Held.{held}
use Rattle.au_blocks.specs.Singles.{stands_once}
use Rattle.au_blocks.proofs.blocks.all_stand_once.Given as goal

abbrev pub invariant-loop-extent : goal.invariant-loop-extent
invariant-loop-extent l = list_all stands_once (held l.rows (drop l.extent-index l.extents)) ≡ list_all stands_once (held l.rows l.extents)
