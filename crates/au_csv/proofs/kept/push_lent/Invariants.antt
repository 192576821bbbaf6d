use Rattle.std.proofs.Common.{◌≡◌, ◌++◌, drop, length}
use Rattle.csv.specs.Records.{Rising, fields_of}
use Rattle.au_csv.specs.Flat.{between}
use Rattle.au_csv.proofs.kept.push_lent.Given as goal

-- the records so far, and behind them those that are left, are all
abbrev pub invariant-loop-stop : goal.invariant-loop-stop
invariant-loop-stop l = record {
  rising : Rising l.start (drop l.stop-index l.stops) (length (fields_of l.fields));
  rows : l.rows.items ++ between l.start (drop l.stop-index l.stops) (fields_of l.fields) ≡ l.fn.rows.items ++ between 0 l.stops (fields_of l.fields);
}
