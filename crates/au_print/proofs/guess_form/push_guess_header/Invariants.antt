-- So far the record has the field `row` and the names before this one.
use Rattle.std.proofs.Common.{◌≡◌, [], ◌++◌, take}
use Rattle.csv.specs.Records.{fields_of, partial_of}
use Rattle.au_print.proofs.guess_form.push_guess_header.Given as goal

abbrev pub invariant-loop-name : goal.invariant-loop-name
invariant-loop-name l = record {
  so_far : fields_of l.row ≡ fields_of l.initial.row ++ take l.name-index l.names;
  whole : partial_of l.row ≡ [];
}
