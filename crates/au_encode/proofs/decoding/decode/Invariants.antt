-- The rows so far, with those that are left, are those that the plain rows encode.
use Rattle.std.proofs.Common.{◌≡◌, ◌++◌, map}
use Rattle.std.specs.Vec.Iter.{into_iter_items}
use Rattle.au_encode.specs.Encode.{AreEncoded, decode as decoded}
use Rattle.au_encode.proofs.decoding.decode.Given as goal

abbrev pub invariant-loop-row : goal.invariant-loop-row
invariant-loop-row l = record {
  encoded : AreEncoded l.columns (map (λ row. row.items) (into_iter_items l.row-iterator));
  rows : l.rel ++ decoded l.columns (map (λ row. row.items) (into_iter_items l.row-iterator)) ≡ decoded l.columns (map (λ row. row.items) l.fn.rows.items);
}
