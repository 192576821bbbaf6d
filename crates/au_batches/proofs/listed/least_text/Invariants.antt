-- The least so far, with the others that are left, is that of all.
use Rattle.std.proofs.Common.{◌≡◌, ◌∷◌, drop, map}
use Rattle.au_value.specs.declared.value.Value.TheVariants.{Text}
use Rattle.au_algebra.specs.Lists.{least}
use Rattle.au_batches.proofs.listed.least_text.Given as goal

abbrev pub invariant-loop-place : goal.invariant-loop-place
invariant-loop-place l = least (Text l.least ∷ map (λ x. Text x) (drop l.place l.texts)) ≡ least (map (λ x. Text x) l.texts)
