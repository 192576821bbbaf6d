-- One row more.
use Rattle.std.proofs.Common.{◌<◌, ◌++◌, arith, length, slice_range}
use Rattle.au_print.specs.Lent.{cells_text, plain_row, rows_text}
use Rattle.au_print.specs.Records.{written}
use Rattle.au_print.proofs.PlainRows.{row_encoded}
use Rattle.au_print.proofs.RowTexts.{next_row}
use Rattle.au_print.proofs.coded_form.write_rows.Goals as goal

pub write_row-requires-clause-encoded : goal.write_row-requires-clause-encoded
write_row-requires-clause-encoded c =
    let a = c.args.answer.now in
    let below : c.loop-row.row < c.args.end = grind (arith, c.loop-row-test.true) in
    let there : c.loop-row.row < length a.batch.now = omega (arith, below, c.requires.within.1) in
    row_encoded (length a.kinds.now) (plain_row a) a.batch.now c.loop-row.row c.requires.rows there

pub loop-row-preserved : goal.loop-row-preserved
loop-row-preserved c =
    let a = c.args.answer.now in
    let below : c.loop-row.row < c.args.end = grind (arith, c.loop-row-test.true) in
    let total = written c.args.writer.now (λ v. v.items) ++ rows_text a (slice_range a.batch.now c.args.first c.args.end) in
    record {
      ready = c.in_ok-write_row.ensures.ready;
      rest = next_row (cells_text a) a.batch.now c.loop-row.row c.args.end (written c.loop-row.writer (λ v. v.items)) (written c.write_row.new.writer (λ v. v.items)) total below c.requires.within.1 c.in_ok-write_row.ensures.text c.loop-row.invariant.rest;
    }
