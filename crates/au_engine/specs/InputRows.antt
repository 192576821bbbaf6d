-- The rows of an input of plans: those that a plan can be run over, or the rows of blocks in the guess world with one count or two.
use Rattle.std.specs.Prelude.{⊤}
use Rattle.au_algebra.specs.Ordinary.{Rows}
use Rattle.au_blocks.specs.Tables.{IsBlockTable, table}
use Rattle.au_plain.specs.PlanKinds.{FitRows}
use Rattle.au_engine.specs.CountedTables.{certain_guesses, counted_guesses}
use Rattle.au_engine.specs.declared.running.input.Content.{Content}
use Rattle.au_engine.specs.declared.running.input.Content.TheVariants as code

abbrev pub content_rows : Content → Rows
content_rows (code.Ready rows) = rows
content_rows (code.Guesses columns blocks) = counted_guesses blocks
content_rows (code.Certain blocks) = certain_guesses blocks

-- what a plan can be run over holds no number outside the range, and the blocks with columns are those of a table of these
abbrev pub IsContent : Content → Type 0
IsContent (code.Ready rows) = FitRows rows
IsContent (code.Guesses columns blocks) = IsBlockTable (table columns.now blocks)
IsContent (code.Certain blocks) = ⊤
