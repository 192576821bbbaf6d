-- What holds of the triples that are left holds of all.
use Rattle.std.proofs.Common.{◌^◌, ◌<◌, drop}
use Rattle.std.specs.List.{AllByRecursion}
use Rattle.au_annot.specs.Triples.{IsTriple}
use Rattle.au_algebra.proofs.normal_form.read.Given as goal

abbrev pub invariant-loop-row : goal.invariant-loop-row
invariant-loop-row l =
    AllByRecursion (λ r. IsTriple r.1 × r.1.most < 2 ^ 127) (drop l.row-index l.rows) → AllByRecursion (λ r. IsTriple r.1 × r.1.most < 2 ^ 127) l.rows
