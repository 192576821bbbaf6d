-- The fields of the ranges that are left complete those of the row.
use Rattle.std.proofs.Common.{◌≡◌, ◌++◌, drop, length}
use Rattle.au_encode.specs.Encode.{IsEncoded}
use Rattle.au_print.specs.Begun.{HasFields}
use Rattle.au_print.specs.Lent.{row_values}
use Rattle.au_print.specs.Records.{written}
use Rattle.au_print.proofs.RowTexts.{ranges_text}
use Rattle.au_print.proofs.coded_fields.write_cells.Given as goal

abbrev pub invariant-loop-kind : goal.invariant-loop-kind
invariant-loop-kind l = record {
  begun : HasFields 2 l.writer;
  encoded : IsEncoded (length l.kinds) (drop l.place (row_values l.answer l.row));
  rest :
      written l.writer (λ v. v.items) ++ ranges_text l.kinds (row_values l.answer l.row) l.place
      ≡ written l.initial.writer (λ v. v.items) ++ ranges_text l.answer.kinds.now (row_values l.answer l.row) 0;
}

abbrev pub decreases-loop-kind : goal.decreases-loop-kind
decreases-loop-kind l = length l.kinds
