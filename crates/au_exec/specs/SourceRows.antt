-- The rows of a source: of the encoded rows of blocks the values in some places, or rows that stand in memory or are held as codes.
use Rattle.std.specs.Prelude.{⊤}
use Rattle.au_algebra.specs.Ordinary.{Rows}
use Rattle.au_blocks.specs.Tables.{IsBlockTable, table}
use Rattle.au_batches.specs.BlockRows.{block_rows}
use Rattle.au_exec.specs.HeldRows.{lent_rows}
use Rattle.au_exec.specs.declared.source.Content.{Content}
use Rattle.au_exec.specs.declared.source.Content.TheVariants as code

abbrev pub content_rows : Content → Rows
content_rows (code.Blocks columns blocks places) = block_rows places.now blocks
content_rows (code.Rows rows) = lent_rows rows.now
content_rows (code.Coded rows) = rows.now

-- the blocks are those of a table of these columns
abbrev pub IsContent : Content → Type 0
IsContent (code.Blocks columns blocks places) = IsBlockTable (table columns.now blocks)
IsContent (code.Rows rows) = ⊤
IsContent (code.Coded rows) = ⊤
