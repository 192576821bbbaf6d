-- What holds of the rows that are left holds of all.
use Rattle.std.proofs.Common.{◌*◌, ◌^◌, ◌<◌, [], drop, get_or}
use Rattle.std.specs.List.{AllByRecursion}
use Rattle.au_annot.specs.Triples.{IsTriple}
use Rattle.au_settled.specs.Places.{counts_at}
use Rattle.au_settled.proofs.counts.read.Given as goal

abbrev pub invariant-loop-place : goal.invariant-loop-place
invariant-loop-place l =
    AllByRecursion (λ p. IsTriple (counts_at (3 * l.columns) (get_or l.rows p [])) × (counts_at (3 * l.columns) (get_or l.rows p [])).most < 2 ^ 127) (drop l.place-index l.places)
    → AllByRecursion (λ p. IsTriple (counts_at (3 * l.columns) (get_or l.rows p [])) × (counts_at (3 * l.columns) (get_or l.rows p [])).most < 2 ^ 127) l.places
