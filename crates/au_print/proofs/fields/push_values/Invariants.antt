-- The texts of the values that are left complete the record.
use Rattle.std.proofs.Common.{◌≡◌, [], ◌++◌, length}
use Rattle.csv.specs.Records.{fields_of, partial_of}
use Rattle.au_print.specs.Texts.{value_texts}
use Rattle.au_print.proofs.fields.push_values.Given as goal

abbrev pub invariant-loop-kind : goal.invariant-loop-kind
invariant-loop-kind l = record {
  rest : fields_of l.row ++ value_texts l.kinds l.values ≡ fields_of l.initial.row ++ value_texts l.fn.kinds l.fn.values;
  whole : partial_of l.row ≡ [];
}

abbrev pub decreases-loop-kind : goal.decreases-loop-kind
decreases-loop-kind l = length l.kinds
