-- The counts so far are those of the blocks so far.
use Rattle.std.proofs.Common.{◌≡◌, map, take}
use Rattle.au_value.specs.declared.value.Value.TheVariants.{Int}
use Rattle.au_batches.specs.Listed.{once_count}
use Rattle.au_batches.proofs.listed.listed_counts.Given as goal

abbrev pub invariant-loop-extent : goal.invariant-loop-extent
invariant-loop-extent l = map (λ n. Int n) l.made.items ≡ map (once_count l.number) (take l.extent-index l.extents)
