-- The greatest so far, with the others that are left, is that of all.
use Rattle.std.proofs.Common.{◌≡◌, ◌∷◌, drop, map}
use Rattle.au_value.specs.declared.value.Value.TheVariants.{Int}
use Rattle.au_algebra.specs.Lists.{greatest}
use Rattle.au_batches.proofs.listed.greatest_number.Given as goal

abbrev pub invariant-loop-place : goal.invariant-loop-place
invariant-loop-place l = greatest (Int l.greatest ∷ map (λ x. Int x) (drop l.place l.numbers)) ≡ greatest (map (λ x. Int x) l.numbers)
