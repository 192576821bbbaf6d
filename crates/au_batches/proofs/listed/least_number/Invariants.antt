-- The least so far, with the others that are left, is that of all.
use Rattle.std.proofs.Common.{◌≡◌, ◌∷◌, drop, map}
use Rattle.au_value.specs.declared.value.Value.TheVariants.{Int}
use Rattle.au_algebra.specs.Lists.{least}
use Rattle.au_batches.proofs.listed.least_number.Given as goal

abbrev pub invariant-loop-place : goal.invariant-loop-place
invariant-loop-place l = least (Int l.least ∷ map (λ x. Int x) (drop l.place l.numbers)) ≡ least (map (λ x. Int x) l.numbers)
