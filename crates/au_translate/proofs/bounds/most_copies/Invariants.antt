-- The number so far, with those of the alternatives that are left, is that of all.
use Rattle.std.proofs.Common.{◌≡◌, map, drop, max}
use Rattle.std.specs.Prelude.{fold}
use Rattle.au_translate.specs.Translate.{greatest_number}
use Rattle.au_translate.proofs.bounds.most_copies.Given as goal

abbrev pub invariant-loop-place : goal.invariant-loop-place
invariant-loop-place l = fold max l.most (map (λ a. a.copies.most) (drop l.place l.alternatives)) ≡ greatest_number (map (λ a. a.copies.most) l.alternatives)
