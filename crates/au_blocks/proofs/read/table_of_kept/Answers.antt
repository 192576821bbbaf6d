-- The records of a text as a table.
use Rattle.std.proofs.Common.{◌∙◌, Ok, sym, ap}
use Rattle.au_blocks.proofs.ReadTables.{table-read}
use Rattle.au_blocks.proofs.read.table_of_kept.Goals as goal

pub returns-clause-table : goal.returns-clause-table
returns-clause-table c =
    let records = c.in_ok-held.ensures.records ∙ ap Ok (sym c.in_ok-rows.ensures ∙ sym c.as_slice.ensures.value) in
    table-read c.args.bytes.now c.as_slice.result.now c.table_of_records.result records c.table_of_records.ensures.table
