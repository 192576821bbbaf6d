-- The greatest so far, with the others that are left, is that of all.
use Rattle.std.proofs.Common.{◌≡◌, ◌∷◌, drop, map}
use Rattle.au_value.specs.declared.value.Value.TheVariants.{Text}
use Rattle.au_algebra.specs.Lists.{greatest}
use Rattle.au_batches.proofs.listed.greatest_text.Given as goal

abbrev pub invariant-loop-place : goal.invariant-loop-place
invariant-loop-place l = greatest (Text l.greatest ∷ map (λ x. Text x) (drop l.place l.texts)) ≡ greatest (map (λ x. Text x) l.texts)
