-- The least so far, with those of the alternatives that are left, is that of all.
use Rattle.std.proofs.Common.{◌≡◌, ◌∷◌, drop, map}
use Rattle.au_algebra.specs.Lists.{least}
use Rattle.au_blocks.specs.Scalars.{scalar_value}
use Rattle.au_translate.specs.Translate.{low_at}
use Rattle.au_translate.proofs.bounds.least.Given as goal

abbrev pub invariant-loop-place : goal.invariant-loop-place
invariant-loop-place l = least (scalar_value l.least ∷ map (low_at l.at) (drop l.place l.alternatives)) ≡ least (map (low_at l.at) l.alternatives)
