use Rattle.std.proofs.Common.{◌≡◌, ◌≤◌, take}
use Rattle.au_columns.specs.Batches.{places_where}
use Rattle.au_columns.proofs.wide.true_places.Given as goal

abbrev pub invariant-loop-i : goal.invariant-loop-i
invariant-loop-i l = record {
  few : l.count ≤ l.i;
  places : take l.count l.places ≡ places_where 0 (take l.i l.flags);
}
