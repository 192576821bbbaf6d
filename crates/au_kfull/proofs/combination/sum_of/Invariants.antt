-- The sum so far, with that of the rows that are left, is that of all rows.
use Rattle.std.proofs.Common.{◌≡◌, IsTrue, drop, map}
use Rattle.au_annot.specs.Triples.{plus, total_counts, in_range}
use Rattle.au_kfull.proofs.combination.sum_of.Given as goal

abbrev pub invariant-loop-row : goal.invariant-loop-row
invariant-loop-row l = record {
  sum : plus l.sum (total_counts (map (λ r. r.annot) (drop l.row-index l.rows))) ≡ total_counts (map (λ r. r.annot) l.rows);
  fits : IsTrue (in_range l.sum);
}
