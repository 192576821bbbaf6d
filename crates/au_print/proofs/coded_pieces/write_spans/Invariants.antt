-- So far the records of the spans before this one are written.
use Rattle.std.proofs.Common.{◌≡◌, ◌++◌, take}
use Rattle.au_print.specs.Records.{IsReady, written}
use Rattle.au_print.specs.Spans.{spans_text}
use Rattle.au_print.proofs.coded_pieces.write_spans.Given as goal

abbrev pub invariant-loop-span : goal.invariant-loop-span
invariant-loop-span l = record {
  ready : IsReady l.writer;
  so_far : written l.writer (λ v. v.items) ≡ written l.initial.writer (λ v. v.items) ++ spans_text l.answer (take l.span-index l.spans);
}
