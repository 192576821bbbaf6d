-- So far the record has the fields of the names before this one.
use Rattle.std.proofs.Common.{◌≡◌, [], ◌++◌, take, flat_map}
use Rattle.csv.specs.Records.{fields_of, partial_of}
use Rattle.au_print.specs.Texts.{three_names}
use Rattle.au_print.proofs.fields.push_header.Given as goal

abbrev pub invariant-loop-name : goal.invariant-loop-name
invariant-loop-name l = record {
  so_far : fields_of l.row ≡ fields_of l.initial.row ++ flat_map three_names (take l.name-index l.names);
  whole : partial_of l.row ≡ [];
}
