-- The places so far, with those of the rows that are left, are those of all rows.
use Rattle.std.proofs.Common.{◌≡◌, ◌++◌, drop}
use Rattle.au_columns.specs.Batches.{rows_of}
use Rattle.au_folds.specs.Keyed.{lists}
use Rattle.au_folds.specs.Places.{places_among, seen_after}
use Rattle.au_folds.proofs.keyed.list_places.Given as goal

abbrev pub invariant-loop-row : goal.invariant-loop-row
invariant-loop-row l = record {
  places : l.places.items ++ places_among (lists l.known.keys) (drop l.row (rows_of l.count (lists l.columns))) ≡ places_among (lists l.fn.known.keys) (rows_of l.count (lists l.columns));
  seen : seen_after (lists l.known.keys) (drop l.row (rows_of l.count (lists l.columns))) ≡ seen_after (lists l.fn.known.keys) (rows_of l.count (lists l.columns));
}
