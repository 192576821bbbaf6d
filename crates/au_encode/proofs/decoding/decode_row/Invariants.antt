-- The ranges so far, with those that are left, are those of the row, and so is the triple.
use Rattle.std.proofs.Common.{◌≡◌, ◌++◌}
use Rattle.std.specs.Vec.Iter.{into_iter_items}
use Rattle.au_encode.specs.Encode.{IsEncoded, decode_annot, decode_cells}
use Rattle.au_encode.proofs.decoding.decode_row.Given as goal

abbrev pub invariant-loop-left : goal.invariant-loop-left
invariant-loop-left l = record {
  encoded : IsEncoded l.left (into_iter_items l.rest);
  cells : l.cells.items ++ decode_cells l.left (into_iter_items l.rest) ≡ decode_cells l.columns l.fn.row.items;
  annot : decode_annot l.left (into_iter_items l.rest) ≡ decode_annot l.columns l.fn.row.items;
}

abbrev pub decreases-loop-left : goal.decreases-loop-left
decreases-loop-left l = l.left
