-- The plan of a tree over tables of rows with counts.
use Rattle.std.specs.Prelude.{◌≡◌, ◌⊎◌, ℕ, IsTrue, List, length, map, Some}
use Rattle.std.specs.List.{AllZip}
use Rattle.au_value.specs.declared.kinds.Kind.{Kind}
use Rattle.au_algebra.specs.Ordinary.{Rows}
use Rattle.au_algebra.specs.Positive.{is_positive}
use Rattle.au_algebra.specs.Trees.{Tree}
use Rattle.au_algebra.specs.Typing.{kinds_of}
use Rattle.au_plain.specs.Meaning.{plain_rows}
use Rattle.au_plain.specs.PlanKinds.{FitTables, plan_kinds}
use Rattle.au_plain.specs.Plans.{PlanTree}
use Rattle.au_rwcounted.specs.Answers.{counted_answer}
use Rattle.au_rwcounted.specs.CountedRows.{AreCountsRows, CountsRow, counts_kinds, counts_rows}

-- there is one count, or the tree is positive
abbrev pub HasCounts : ℕ → Tree → Type 0
HasCounts k q = (k ≡ 1) ⊎ IsTrue (is_positive q)

-- Over tables of these column kinds and these rows the plan is typed, and gives rows of columns `ks` with `k` counts, in this
-- order.
pub record GivesRows (k : ℕ) (kinds : List (List Kind)) (tables : List Rows) (p : PlanTree) (ks : List Kind) (rows : List CountsRow) : Type 0 where
  pub typed : plan_kinds kinds p ≡ Some (counts_kinds k ks)
  pub relation : AreCountsRows k ks rows
  pub counted : plain_rows p tables ≡ counts_rows rows

-- The plan of a tree gives over tables of these kinds, for which the tree is typed, the rows of the tree, each of so many columns.
abbrev pub GivesTables : ℕ → List (List Kind) → Tree → PlanTree → ℕ → Type 0
GivesTables k kinds q p c =
    (ts : List (List CountsRow)) (ks : List Kind) → AllZip (AreCountsRows k) kinds ts → FitTables (map counts_rows ts) → kinds_of kinds q ≡ Some ks →
    (length ks ≡ c) × GivesRows k (map (counts_kinds k) kinds) (map counts_rows ts) p ks (counted_answer q ts)

-- the same, where the operators of the tree go with so many counts
abbrev pub GivesCounted : ℕ → List (List Kind) → Tree → PlanTree → ℕ → Type 0
GivesCounted k kinds q p c = HasCounts k q → GivesTables k kinds q p c
