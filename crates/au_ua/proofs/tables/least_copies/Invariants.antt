-- The number so far, with those of the alternatives that are left, is that of all.
use Rattle.std.proofs.Common.{◌≡◌, map, drop, min}
use Rattle.std.specs.Prelude.{fold}
use Rattle.au_translate.specs.Translate.{least_number}
use Rattle.au_ua.proofs.tables.least_copies.Given as goal

abbrev pub invariant-loop-place : goal.invariant-loop-place
invariant-loop-place l = fold min l.least (map (λ a. a.copies.least) (drop l.place l.alternatives)) ≡ least_number (map (λ a. a.copies.least) l.alternatives)
