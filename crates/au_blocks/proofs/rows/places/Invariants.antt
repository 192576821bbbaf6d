use Rattle.std.proofs.Common.{◌≡◌, ◌++◌, drop, map}
use Rattle.au_blocks.specs.Columns.{places_from}
use Rattle.au_blocks.proofs.rows.places.Given as goal

-- the places so far stand before those of the columns that are left
abbrev pub invariant-loop-place : goal.invariant-loop-place
invariant-loop-place l = l.places.items ++ places_from l.place (map (λ c. c.kind) (drop l.place l.columns)) ≡ places_from 0 (map (λ c. c.kind) l.columns)
