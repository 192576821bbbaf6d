use Rattle.std.proofs.Common.{◌≡◌, ◌++◌, take}
use Rattle.csv.specs.Records.{fields_of}
use Rattle.au_csv.proofs.kept.push_record.Given as goal

-- the fields that the iterator gave stand behind the others
abbrev pub invariant-loop-field : goal.invariant-loop-field
invariant-loop-field l = record {
  row : l.field-iterator.row.now ≡ l.fn.record;
  fields : fields_of l.fields ≡ fields_of l.fn.fields ++ take l.field-iterator.at (fields_of l.fn.record);
}
