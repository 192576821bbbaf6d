-- The aggregates so far are copied.
use Rattle.std.proofs.Common.{◌≡◌, take}
use Rattle.au_plain.proofs.copies.copy_aggs.Given as goal

abbrev pub invariant-loop-agg : goal.invariant-loop-agg
invariant-loop-agg l = l.copied.items ≡ take l.agg-index l.aggs
