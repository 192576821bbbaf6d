-- The records of the rows that are left complete the text.
use Rattle.std.proofs.Common.{◌≡◌, ◌++◌, slice_range}
use Rattle.au_print.specs.Lent.{rows_text}
use Rattle.au_print.specs.Records.{IsReady, written}
use Rattle.au_print.proofs.coded_form.write_rows.Given as goal

abbrev pub invariant-loop-row : goal.invariant-loop-row
invariant-loop-row l = record {
  ready : IsReady l.writer;
  rest :
      written l.writer (λ v. v.items) ++ rows_text l.answer (slice_range l.answer.batch.now l.row l.end)
      ≡ written l.initial.writer (λ v. v.items) ++ rows_text l.answer (slice_range l.answer.batch.now l.first l.end);
}
