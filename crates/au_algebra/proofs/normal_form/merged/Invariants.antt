-- The rows so far are in their runs, and lie in the range.
use Rattle.std.proofs.Common.{◌≡◌, ◌++◌, length, map}
use Rattle.std.specs.List.{AllByRecursion}
use Rattle.std.specs.Vec.Iter.{into_iter_items, into_iter_len}
use Rattle.au_algebra.specs.Entries.{entry}
use Rattle.au_algebra.proofs.TripleFits.{IsInRange, RunsSoFar}
use Rattle.au_algebra.proofs.normal_form.merged.Given as goal

abbrev pub invariant-loop-row : goal.invariant-loop-row
invariant-loop-row l = record {
  can : goal.iterator-loop-row.can_next l.row-iterator;
  finite : goal.iterator-loop-row.is_finite l.row-iterator;
  left : l.yielded ++ into_iter_items l.row-iterator ≡ into_iter_items l.initial.row-iterator;
  count : into_iter_len l.row-iterator ≡ length (into_iter_items l.row-iterator);
  runs : RunsSoFar (entry l.initial.current.0.items l.initial.current.1) (map (λ r. entry r.0.items r.1) l.yielded) (map (λ r. entry r.0.items r.1) l.done.items) (entry l.current.0.items l.current.1);
  done : AllByRecursion IsInRange (map (λ r. entry r.0.items r.1) l.done.items);
  current : IsInRange (entry l.current.0.items l.current.1);
}
