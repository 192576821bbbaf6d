-- A plan that is run in stages: of some operators the input is run first, and its rows stand as a table for the rest.
use Rattle.std.specs.Prelude.{◌≡◌, ℕ, Bool, true, false, List, [], ◌++◌, length, map, Some, ℤ}
use Rattle.std.specs.List.{AllZip}
use Rattle.au_value.specs.declared.kinds.Kind.{Kind}
use Rattle.au_expr.specs.Figures.{Fit}
use Rattle.au_algebra.specs.declared.query.Agg.{Agg}
use Rattle.au_algebra.specs.Bounded.{Bounded, combine, product}
use Rattle.au_algebra.specs.Fits.{triple_numbers}
use Rattle.au_algebra.specs.Laws.{IsRelation}
use Rattle.au_algebra.specs.Lists.{SameUpToOrder, same_row}
use Rattle.au_algebra.specs.Ordinary.{Rows}
use Rattle.au_algebra.specs.Trees.{Tree}
use Rattle.au_algebra.specs.Typing.{group_kinds, kinds_of}
use Rattle.au_blocks.specs.Tables.{BlockTable, column_kinds}
use Rattle.au_translate.specs.Translate.{bounded_table}
use Rattle.au_compress.specs.CompressedFits.{product_numbers}
use Rattle.au_compress.specs.Splitting.{compressed_product}
use Rattle.au_plain.specs.PlanKinds.{FitTables, HaveKinds}
use Rattle.au_plain.specs.Plans.{PlanTree}
use Rattle.au_combine.specs.Gives.{Combines}
use Rattle.au_encode.specs.Encode.{decode, encode}
use Rattle.au_encode.specs.Gives.{GivesRelation}
use Rattle.au_program.specs.Rules.{grouping_by, tree_numbers, tree_rows}
use Rattle.au_program.specs.declared.rules.Rules.{Rules}

-- two lists have the same rows, each equally often
abbrev pub SameRows : Rows → Rows → Type 0
SameRows xs ys = SameUpToOrder same_row xs ys

-- A plan gives a relation over tables that stand behind `n` others, whatever these are and whatever stands behind: the
-- tables are held up to the order of their rows, which have kinds. That no number of them leaves the range is known when
-- their rows are made.
pub record GivesOver (n : ℕ) (held : List Rows) (p : PlanTree) (ks : List Kind) (rows : Bounded) (ns : List ℤ) : Type 0 where
  pub kinds : List (List Kind)
  pub tables : List Rows
  pub typed : AllZip HaveKinds kinds tables
  pub same : AllZip SameRows held tables
  pub gives :
      (front back : List (List Kind)) (before after : List Rows) → length front ≡ n → length before ≡ n → FitTables ((before ++ tables) ++ after) →
      GivesRelation ((front ++ kinds) ++ back) ((before ++ tables) ++ after) p ks rows ns

-- Tables were put behind others, and over them a plan gives a relation of `c` columns.
pub record Adds (old new : List Rows) (p : PlanTree) (c : ℕ) (ks : List Kind) (rows : Bounded) (ns : List ℤ) : Type 0 where
  pub added : List Rows
  pub behind : new ≡ old ++ added
  pub columns : length ks ≡ c
  pub over : GivesOver (length old) added p ks rows ns

-- the relation is that of a block table
abbrev pub AddsTable : BlockTable → List Rows → List Rows → PlanTree → ℕ → Type 0
AddsTable t old new p c = (ns : List ℤ) → Adds old new p c (column_kinds t) (bounded_table t) ns

-- the relation and the numbers are those of a tree over block tables, where it is typed
abbrev pub AddsTree : Rules → List BlockTable → Tree → List Rows → List Rows → PlanTree → ℕ → Type 0
AddsTree rules ts q old new p c =
    (ks : List Kind) → kinds_of (map column_kinds ts) q ≡ Some ks →
    Adds old new p c ks (tree_rows rules q (map bounded_table ts)) (tree_numbers rules q (map bounded_table ts))

-- a plan that gives some relation over all the tables
abbrev pub CanRunPlan : List Rows → PlanTree → ℕ → Type 0
CanRunPlan held p c = (ks : List Kind) × ((rows : Bounded) × ((ns : List ℤ) × Adds [] held p c ks rows ns))

-- no number of the tables leaves the range, and the rows that its run found are those of the relation, up to order
abbrev pub FindsRows : List Rows → PlanTree → ℕ → Rows → Type 0
FindsRows held p c found =
    FitTables held × ((ks : List Kind) (rows : Bounded) (ns : List ℤ) → Adds [] held p c ks rows ns → SameRows found (encode rows))

-- no relation that the plan gives has numbers that all lie in the range
abbrev pub LeavesRange : List Rows → PlanTree → ℕ → Type 0
LeavesRange held p c = (ks : List Kind) (rows : Bounded) (ns : List ℤ) → Adds [] held p c ks rows ns → ¬ (Fit ns)

-- no number of the tables `held` leaves the range, and a plan over tables that were put behind `old` gives whatever another
-- gives over these
abbrev pub Materializes : List Rows → PlanTree → ℕ → List Rows → List Rows → PlanTree → ℕ → Type 0
Materializes held p c old new q d =
    FitTables held × ((ks : List Kind) (rows : Bounded) (ns : List ℤ) → Adds [] held p c ks rows ns → Adds old new q d ks rows ns)

-- the same of the combined relation
abbrev pub MaterializesCombined : List Rows → PlanTree → ℕ → List Rows → List Rows → PlanTree → ℕ → Type 0
MaterializesCombined held p c old new q d =
    FitTables held
    × ((ks : List Kind) (rows : Bounded) (ns : List ℤ) → Adds [] held p c ks rows ns →
    Adds old new q d ks (combine rows) (ns ++ triple_numbers (combine rows)))

abbrev pub LeavesRangeCombined : List Rows → PlanTree → ℕ → Type 0
LeavesRangeCombined held p c =
    (ks : List Kind) (rows : Bounded) (ns : List ℤ) → Adds [] held p c ks rows ns → ¬ (Fit (ns ++ triple_numbers (combine rows)))

-- ---- groups

-- a plan gives the groups of what another one gives, by points or by the hulls of keys
abbrev pub GroupsBy : Bool → ℕ → ℕ → List Agg → PlanTree → PlanTree → Type 0
GroupsBy points c keys aggs of made =
    (tk : List (List Kind)) (tables : List Rows) (ks js : List Kind) (rows : Bounded) (ns : List ℤ) → FitTables tables → length ks ≡ c → group_kinds keys aggs ks ≡ Some js →
    GivesRelation tk tables of ks rows ns →
    GivesRelation tk tables made js ((grouping_by points).groups keys aggs rows) (ns ++ (grouping_by points).groups_numbers keys aggs rows)

-- ---- what is shown

-- the plan of the relation that is shown
abbrev pub Shows : Bool → ℕ → PlanTree → PlanTree → Type 0
Shows true c of p = Combines c of p
Shows false c of p = p ≡ of

-- ---- products that are compressed

-- a relation has the rows of another one, which has `c` columns, in some order
abbrev pub HasRows : ℕ → Bounded → Bounded → Type 0
HasRows c rel rows = (found : Rows) × ((rel ≡ decode c found) × SameRows found (encode rows))

-- no number of the tables leaves the range, and it is the relation that a plan gives over all of them
abbrev pub Decodes : List Rows → PlanTree → ℕ → Bounded → Type 0
Decodes held p c rel =
    FitTables held × ((ks : List Kind) (rows : Bounded) (ns : List ℤ) → Adds [] held p c ks rows ns → HasRows c rel rows)

-- the Scan of the encoded rows of a relation of `c` columns
abbrev pub AddsRelation : Bounded → ℕ → List Rows → List Rows → PlanTree → ℕ → Type 0
AddsRelation rel c old new p d =
    (ks : List Kind) (rows : Bounded) → length ks ≡ c → IsRelation ks rows → SameRows (encode rel) (encode rows) → Adds old new p d ks rows []

-- the pairs of two relations of `m` and `n` columns
abbrev pub AddsPairs : Bounded → ℕ → Bounded → ℕ → List Rows → List Rows → PlanTree → ℕ → Type 0
AddsPairs left m right n old new p d =
    (ks js : List Kind) (xs ys : Bounded) → length ks ≡ m → length js ≡ n → IsRelation ks xs → IsRelation js ys →
    SameRows (encode left) (encode xs) → SameRows (encode right) (encode ys) →
    Adds old new p d (ks ++ js) (product xs ys) (triple_numbers (product xs ys))

-- two relations are those of two sides of a product
pub record AreSides (left : Bounded) (m : ℕ) (right : Bounded) (n : ℕ) (ks js : List Kind) (xs ys : Bounded) : Type 0 where
  pub left_columns : length ks ≡ m
  pub right_columns : length js ≡ n
  pub left_relation : IsRelation ks xs
  pub right_relation : IsRelation js ys
  pub left_rows : HasRows m left xs
  pub right_rows : HasRows n right ys

-- some relations are
abbrev pub HaveSides : Bounded → ℕ → Bounded → ℕ → Type 0
HaveSides left m right n = (ks : List Kind) × ((js : List Kind) × ((xs : Bounded) × ((ys : Bounded) × AreSides left m right n ks js xs ys)))

-- their compressed product, with its numbers
abbrev pub AddsCompressed : ℕ → Bounded → ℕ → Bounded → ℕ → List Rows → List Rows → PlanTree → ℕ → Type 0
AddsCompressed size left m right n old new p d =
    (ks js : List Kind) (xs ys : Bounded) → AreSides left m right n ks js xs ys →
    Adds old new p d (ks ++ js) (compressed_product size xs ys) (product_numbers size xs ys)

-- a number of its making leaves the range
abbrev pub LeavesCompressed : ℕ → Bounded → ℕ → Bounded → ℕ → Type 0
LeavesCompressed size left m right n =
    (ks js : List Kind) (xs ys : Bounded) → AreSides left m right n ks js xs ys → ¬ (Fit (product_numbers size xs ys))

-- two plans over tables of their own give relations, and another plan gives their compressed product
abbrev pub MultipliesCompressed : ℕ → List Rows → PlanTree → ℕ → List Rows → PlanTree → ℕ → List Rows → List Rows → PlanTree → ℕ → Type 0
MultipliesCompressed size lefts left m rights right n old new p d =
    (ks js : List Kind) (xs ys : Bounded) (ms ns : List ℤ) → Adds [] lefts left m ks xs ms → Adds [] rights right n js ys ns →
    Adds old new p d (ks ++ js) (compressed_product size xs ys) (product_numbers size xs ys)

-- a number of the two relations or of the product's making leaves the range
abbrev pub LeavesMultiplied : ℕ → List Rows → PlanTree → ℕ → List Rows → PlanTree → ℕ → Type 0
LeavesMultiplied size lefts left m rights right n =
    (ks js : List Kind) (xs ys : Bounded) (ms ns : List ℤ) → Adds [] lefts left m ks xs ms → Adds [] rights right n js ys ns →
    ¬ (Fit (ms ++ (ns ++ product_numbers size xs ys)))
