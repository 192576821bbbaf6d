-- The header and the records below it are all records.
use Rattle.std.proofs.Common.{◌≡◌, ◌∙◌, ◌∷◌, sym}
use Rattle.au_blocks.proofs.ReadTables.{table-over}
use Rattle.au_blocks.proofs.read.table_of_records.Goals as goal

pub returns-clause-table : goal.returns-clause-table
returns-clause-table c =
    let rows = c.args.rows.now in
    let words = c.as_slice.result.now in
    let others = c.below.result.now in
    let whole : rows ≡ words ∷ others = c.in_ok-header.ensures.header ∙ (λ i. sym c.as_slice.ensures.value i ∷ sym c.below.ensures i) in
    table-over rows (words ∷ others) c.table_under.result whole c.table_under.ensures.table
