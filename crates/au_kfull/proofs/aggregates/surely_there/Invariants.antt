-- The rows found so far, with those that are found among the others, are all.
use Rattle.std.proofs.Common.{◌≡◌, ◌++◌, drop, filter}
use Rattle.std.specs.Prelude.{◌&&◌, nat_le}
use Rattle.au_value.specs.Ranges.{all_certain}
use Rattle.au_kfull.specs.Keys.{keys_of}
use Rattle.au_kfull.proofs.aggregates.surely_there.Given as goal

abbrev pub invariant-loop-row : goal.invariant-loop-row
invariant-loop-row l =
    l.found.items ++ filter (λ r. (all_certain (keys_of l.keys r.cells) && l.certain) && nat_le 1 r.annot.least) (drop l.row-index l.rows) ≡ filter (λ r. (all_certain (keys_of l.keys r.cells) && l.certain) && nat_le 1 r.annot.least) l.rows
