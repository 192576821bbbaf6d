-- The rows so far, with those of the parts that are left, are those of all parts.
use Rattle.std.proofs.Common.{◌++◌}
use Rattle.std.specs.Vec.Iter.{into_iter_items}
use Rattle.au_algebra.specs.Bounded.{Bounded}
use Rattle.au_encode.specs.Gathered.{AreDecoded}
use Rattle.au_encode.proofs.decoding_rows.gathered.Given as goal

abbrev pub invariant-loop-part : goal.invariant-loop-part
invariant-loop-part l = (rest : Bounded) → AreDecoded (into_iter_items l.part-iterator) rest → AreDecoded l.fn.parts.items (l.rel ++ rest)
