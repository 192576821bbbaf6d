-- The numbers so far are those of the blocks so far.
use Rattle.std.proofs.Common.{◌≡◌, map, take}
use Rattle.au_value.specs.declared.value.Value.TheVariants.{Int}
use Rattle.au_batches.specs.Listed.{listed_value}
use Rattle.au_batches.proofs.listed.listed_numbers.Given as goal

abbrev pub invariant-loop-extent : goal.invariant-loop-extent
invariant-loop-extent l = map (λ n. Int n) l.made.items ≡ map (listed_value (λ n. Int n) l.numbers l.part) (take l.extent-index l.extents)
