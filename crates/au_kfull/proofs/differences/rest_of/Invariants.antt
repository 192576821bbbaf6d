-- What is left of the rows so far, with that of the others, is that of all rows.
use Rattle.std.proofs.Common.{◌≡◌, ◌++◌, map}
use Rattle.std.specs.List.{AllByRecursion, list_all}
use Rattle.std.specs.Vec.Iter.{into_iter_items}
use Rattle.au_algebra.specs.Bounded.{less, present}
use Rattle.au_algebra.specs.Entries.{entry}
use Rattle.au_kfull.specs.Numbers.{sums_fit, IsReady}
use Rattle.au_kfull.proofs.differences.rest_of.Given as goal

abbrev pub invariant-loop-cells : goal.invariant-loop-cells
invariant-loop-cells l = record {
  can : goal.iterator-loop-cells.can_next l.cells-iterator;
  finite : goal.iterator-loop-cells.is_finite l.cells-iterator;
  made : l.rel ++ present (map (less l.right) (map (λ r. entry r.0.items r.1) (into_iter_items l.cells-iterator))) ≡ present (map (less l.right) (map (λ r. entry r.0.items r.1) l.fn.left.items));
  fits : list_all (sums_fit l.right) (map (λ r. entry r.0.items r.1) (into_iter_items l.cells-iterator)) ≡ list_all (sums_fit l.right) (map (λ r. entry r.0.items r.1) l.fn.left.items);
  ready : AllByRecursion (IsReady l.right) (map (λ r. entry r.0.items r.1) (into_iter_items l.cells-iterator));
}
