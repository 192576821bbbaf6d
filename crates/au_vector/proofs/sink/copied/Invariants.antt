-- The rows so far, with those of the batches that are left, are all of them.
use Rattle.std.proofs.Common.{◌≡◌, ◌++◌}
use Rattle.std.specs.Prelude.{flat_map}
use Rattle.std.specs.Vec.Iter.{into_iter_items}
use Rattle.au_vector.proofs.sink.copied.Given as goal

abbrev pub invariant-loop-batch : goal.invariant-loop-batch
invariant-loop-batch l = l.all ++ flat_map (λ rows. rows) (into_iter_items l.batch-iterator) ≡ flat_map (λ rows. rows) l.fn.batches.items
