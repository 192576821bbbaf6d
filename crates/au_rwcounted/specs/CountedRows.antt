-- Rows of values with some counts, and the plain rows that hold them: the values, and behind them a number for each count.
use Rattle.std.specs.Prelude.{◌≡◌, ◌≤◌, ℕ, zero, suc, List, [], ◌∷◌, ◌++◌, length, map, pos}
use Rattle.std.specs.List.{AllByRecursion, AllZip}
use Rattle.au_value.specs.declared.kinds.Kind.{Kind}
use Rattle.au_value.specs.declared.kinds.Kind.TheVariants as kind
use Rattle.au_value.specs.declared.value.Value.{Value}
use Rattle.au_value.specs.declared.value.Value.TheVariants.{Int}
use Rattle.au_annot.specs.Pairs.{PairCounts}
use Rattle.au_expr.specs.Ordinary.{IsKind}
use Rattle.au_algebra.specs.Counted.{CountedRow}
use Rattle.au_algebra.specs.Entries.{Entry, entry}
use Rattle.au_algebra.specs.Ordinary.{Rows}

-- a row of values with some counts
abbrev pub CountsRow : Type 0
CountsRow = Entry Value (List ℕ)

abbrev pub count_value : ℕ → Value
count_value n = Int (pos n)

-- the plain row
abbrev pub counts_row : CountsRow → List Value
counts_row r = r.cells ++ map count_value r.annot

abbrev pub counts_rows : List CountsRow → Rows
counts_rows rows = map counts_row rows

-- the kinds of so many counts
abbrev pub count_kinds : ℕ → List Kind
count_kinds zero = []
count_kinds (suc k) = kind.Int ∷ count_kinds k

-- the kinds of a plain row of values of these kinds with so many counts
abbrev pub counts_kinds : ℕ → List Kind → List Kind
counts_kinds k ks = ks ++ count_kinds k

-- values of these kinds with so many counts
pub record IsCountsRow (k : ℕ) (ks : List Kind) (r : CountsRow) : Type 0 where
  pub cells : AllZip IsKind ks r.cells
  pub counts : length r.annot ≡ k

abbrev pub AreCountsRows : ℕ → List Kind → List CountsRow → Type 0
AreCountsRows k ks rows = AllByRecursion (IsCountsRow k ks) rows

-- a row with the number of its copies, as a row with one count
abbrev pub one_count : CountedRow → CountsRow
one_count r = entry r.cells (r.annot ∷ [])

-- a row with a pair, as a row with two counts: certain and guessed
abbrev pub two_counts : Entry Value PairCounts → CountsRow
two_counts r = entry r.cells (r.annot.certain ∷ r.annot.guess ∷ [])

-- a plain row of values and one number that a count can have
abbrev pub HoldsCount : List Value → Type 0
HoldsCount row = (cells : List Value) × (n : ℕ) × (row ≡ cells ++ count_value n ∷ [])

abbrev pub HoldCounts : Rows → Type 0
HoldCounts rows = AllByRecursion HoldsCount rows

-- a plain row of values and two numbers, the certain and the guessed copies
pub record HoldsPair (row : List Value) : Type 0 where
  pub cells : List Value
  pub certain : ℕ
  pub guess : ℕ
  pub in_order : certain ≤ guess
  pub whole : row ≡ cells ++ (count_value certain ∷ count_value guess ∷ [])

abbrev pub HoldPairs : Rows → Type 0
HoldPairs rows = AllByRecursion HoldsPair rows
