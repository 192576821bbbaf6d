use Rattle.std.proofs.Common.{◌≡◌, length}
use Rattle.csv.specs.Records.{Rising, fields_of, last_end}
use Rattle.au_csv.specs.Flat.{between}
use Rattle.au_csv.specs.Reader.{HasRead}
use Rattle.au_csv.proofs.read.records.Given as goal

-- the records so far are those that the reader took, one in each turn; no field stands behind the last
abbrev pub invariant-loop : goal.invariant-loop
invariant-loop l = record {
  turns : length l.stops.items ≡ l.counter;
  rising : Rising 0 l.stops.items (length (fields_of l.fields));
  last : last_end 0 l.stops.items ≡ length (fields_of l.fields);
  read : HasRead l.fn.bytes (between 0 l.stops.items (fields_of l.fields)) l.reader;
}
