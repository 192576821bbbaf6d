-- The columns and blocks are those of a table.
use Rattle.std.proofs.Common.{subst, sym}
use Rattle.au_blocks.specs.Tables.{IsBlockTable, table}
use Rattle.au_texttests.proofs.batch_tests.book_of.Goals as goal

pub add_texts-requires : goal.add_texts-requires
add_texts-requires c = subst IsBlockTable (λ i. table (sym c.columns-columns.ensures.of i) (sym c.blocks-blocks.ensures.of i)) c.columns-columns.ensures.is_table
