-- The greatest so far, with those of the alternatives that are left, is that of all.
use Rattle.std.proofs.Common.{◌≡◌, ◌∷◌, drop, map}
use Rattle.au_algebra.specs.Lists.{greatest}
use Rattle.au_blocks.specs.Scalars.{scalar_value}
use Rattle.au_translate.specs.Translate.{high_at}
use Rattle.au_translate.proofs.bounds.greatest.Given as goal

abbrev pub invariant-loop-place : goal.invariant-loop-place
invariant-loop-place l = greatest (scalar_value l.greatest ∷ map (high_at l.at) (drop l.place l.alternatives)) ≡ greatest (map (high_at l.at) l.alternatives)
