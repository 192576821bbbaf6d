-- The fields of the ranges that are left complete the record.
use Rattle.std.proofs.Common.{◌≡◌, [], ◌++◌, length}
use Rattle.csv.specs.Records.{fields_of, partial_of}
use Rattle.au_print.specs.Texts.{cells_fields}
use Rattle.au_print.proofs.fields.push_ranges.Given as goal

abbrev pub invariant-loop-kind : goal.invariant-loop-kind
invariant-loop-kind l = record {
  rest : fields_of l.row ++ cells_fields l.kinds l.ranges ≡ fields_of l.initial.row ++ cells_fields l.fn.kinds l.fn.ranges;
  whole : partial_of l.row ≡ [];
}

abbrev pub decreases-loop-kind : goal.decreases-loop-kind
decreases-loop-kind l = length l.kinds
