-- The rows so far, with those that are left, are all.
use Rattle.std.proofs.Common.{◌≡◌, ◌++◌, map}
use Rattle.std.specs.Vec.Iter.{into_iter_items}
use Rattle.au_rwcounted.specs.CountedRows.{HoldPairs, counts_rows, two_counts}
use Rattle.au_rwcounted.proofs.reading.read_pairs.Given as goal

abbrev pub invariant-loop-row : goal.invariant-loop-row
invariant-loop-row l = record {
  held : HoldPairs (map (λ row. row.items) (into_iter_items l.row-iterator));
  rows : counts_rows (map two_counts l.rel) ++ map (λ row. row.items) (into_iter_items l.row-iterator) ≡ map (λ row. row.items) l.fn.rows.items;
}
