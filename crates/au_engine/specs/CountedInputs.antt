-- Inputs of rows with counts, and what the run of a tree's plan finds over them.
use Rattle.std.specs.Prelude.{◌≡◌, ℕ, List, map, Some}
use Rattle.std.specs.List.{AllZip}
use Rattle.au_value.specs.declared.kinds.Kind.{Kind}
use Rattle.au_algebra.specs.Lists.{SameUpToOrder, same_row}
use Rattle.au_algebra.specs.Ordinary.{Rows}
use Rattle.au_algebra.specs.Trees.{Tree}
use Rattle.au_algebra.specs.Typing.{kinds_of}
use Rattle.au_rwcounted.specs.Answers.{counted_answer}
use Rattle.au_rwcounted.specs.CountedRows.{AreCountsRows, CountsRow, counts_rows}

-- inputs are rows of values of these kinds with so many counts
pub record AreCounted (k : ℕ) (kinds : List (List Kind)) (inputs : List Rows) : Type 0 where
  pub tables : List (List CountsRow)
  pub relations : AllZip (AreCountsRows k) kinds tables
  pub are : map counts_rows tables ≡ inputs

-- What is found over inputs are the rows of the tree, in some order.
pub record FoundRows (k : ℕ) (ks : List Kind) (rows : List CountsRow) (found : Rows) : Type 0 where
  pub relation : AreCountsRows k ks rows
  pub same : SameUpToOrder same_row found (counts_rows rows)

abbrev pub FindsCounted : ℕ → List (List Kind) → Tree → List Rows → Rows → Type 0
FindsCounted k kinds q inputs found =
    (ts : List (List CountsRow)) (ks : List Kind) → AllZip (AreCountsRows k) kinds ts → map counts_rows ts ≡ inputs → kinds_of kinds q ≡ Some ks →
    FoundRows k ks (counted_answer q ts) found
