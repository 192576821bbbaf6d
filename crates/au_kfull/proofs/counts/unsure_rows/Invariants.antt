-- The rows found so far, with those that are found among the others, are all.
use Rattle.std.proofs.Common.{◌≡◌, ◌++◌, drop}
use Rattle.au_kfull.specs.Groups.{unsure}
use Rattle.au_kfull.proofs.counts.unsure_rows.Given as goal

abbrev pub invariant-loop-row : goal.invariant-loop-row
invariant-loop-row l = l.found.items ++ unsure l.keys (drop l.row-index l.rows) ≡ unsure l.keys l.rows
