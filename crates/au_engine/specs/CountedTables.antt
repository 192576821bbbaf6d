-- The rows of block tables in the guess world as plain rows: the values, and behind them the number of copies, or how many of them
-- are certain and how many are guessed.
use Rattle.std.specs.Prelude.{◌≡◌, List, length, map}
use Rattle.std.specs.List.{AllByRecursion}
use Rattle.au_value.specs.declared.kinds.Kind.{Kind}
use Rattle.au_algebra.specs.Counted.{CountedRow}
use Rattle.au_algebra.specs.Ordinary.{Rows}
use Rattle.au_blocks.specs.Blocks.{Choices}
use Rattle.au_rwcounted.specs.CountedRows.{CountsRow, counts_rows, one_count, two_counts}
use Rattle.au_translate.specs.Translate.{guessed_blocks}
use Rattle.au_ua.specs.UaTables.{ua_blocks}

-- the rows of the guess world with their numbers of copies, each of which is one count
abbrev pub guessed_counts : List Choices → List CountsRow
guessed_counts bs = map one_count (guessed_blocks bs)

abbrev pub counted_guesses : List Choices → Rows
counted_guesses bs = counts_rows (guessed_counts bs)

-- the rows of the guess world with how many of their copies are certain and how many guessed, each of which is a count
abbrev pub certain_guesses : List Choices → Rows
certain_guesses bs = counts_rows (map two_counts (ua_blocks bs))

-- each row has a value for each of so many kinds
abbrev pub HaveColumns : List Kind → List CountedRow → Type 0
HaveColumns kinds rows = AllByRecursion (λ r. length r.cells ≡ length kinds) rows
