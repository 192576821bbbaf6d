-- The rows that a plan is run over: rows, or rows that are held as codes, or of the encoded rows of blocks the values in some places.
use Rattle.std.specs.Prelude.{⊤}
use Rattle.au_algebra.specs.Ordinary.{Rows}
use Rattle.au_blocks.specs.Tables.{IsBlockTable, table}
use Rattle.au_batches.specs.BlockRows.{block_rows}
use Rattle.au_exec.specs.HeldRows.{rows_of}
use Rattle.au_engine.specs.declared.running.held.Kept.{Kept}
use Rattle.au_engine.specs.declared.running.held.Kept.TheVariants as kept

abbrev pub held_rows : Kept → Rows
held_rows (kept.Rows rows) = rows_of rows
held_rows (kept.Coded rows) = rows
held_rows (kept.Blocks columns blocks places) = block_rows places.items blocks

-- the blocks are those of a table of these columns
abbrev pub IsHeld : Kept → Type 0
IsHeld (kept.Rows rows) = ⊤
IsHeld (kept.Coded rows) = ⊤
IsHeld (kept.Blocks columns blocks places) = IsBlockTable (table columns.now blocks)
