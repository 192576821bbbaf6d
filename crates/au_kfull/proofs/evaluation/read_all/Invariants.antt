-- The triples lie in the range where those of the rows that are left do.
use Rattle.std.proofs.Common.{◌≡◌, drop}
use Rattle.std.specs.List.{list_all}
use Rattle.au_annot.specs.Triples.{in_range}
use Rattle.au_kfull.proofs.evaluation.read_all.Given as goal

abbrev pub invariant-loop-row : goal.invariant-loop-row
invariant-loop-row l = list_all (λ r. in_range r.1) (drop l.row-index l.rows) ≡ list_all (λ r. in_range r.1) l.rows
