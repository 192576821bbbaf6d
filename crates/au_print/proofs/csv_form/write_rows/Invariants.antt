-- So far the rows before this one are written.
use Rattle.std.proofs.Common.{◌≡◌, ◌++◌, take, flat_map}
use Rattle.au_algebra.specs.Entries.{entry}
use Rattle.au_print.specs.Records.{IsReady, written}
use Rattle.au_print.specs.Texts.{record_text, row_fields}
use Rattle.au_print.proofs.csv_form.write_rows.Given as goal

abbrev pub invariant-loop-ranges : goal.invariant-loop-ranges
invariant-loop-ranges l = record {
  ready : IsReady l.writer;
  so_far : written l.writer (λ v. v.items) ≡ written l.initial.writer (λ v. v.items) ++ flat_map (λ r. record_text (row_fields l.kinds (entry r.0.items r.1))) (take l.ranges-index l.rows);
}
