-- The columns and blocks are those of a table.
use Rattle.std.proofs.Common.{subst, sym}
use Rattle.au_blocks.specs.Tables.{IsBlockTable, table}
use Rattle.au_texttests.proofs.batch_tests.coded.Goals as goal

pub coded_places-requires : goal.coded_places-requires
coded_places-requires c = subst IsBlockTable (λ i. table (sym c.columns-columns.ensures.of i) (sym c.blocks-blocks.ensures.of i)) c.columns-columns.ensures.is_table
