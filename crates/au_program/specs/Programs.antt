-- Plans over sources that were put behind others, and the program of a tree: for all block tables of some column kinds.
use Rattle.std.specs.Prelude.{◌≡◌, ◌⊎◌, ◌*◌, ◌+◌, ℕ, Bool, List, [], ◌∷◌, ◌++◌, length, map, None, Some, ℤ}
use Rattle.au_value.specs.declared.kinds.Kind.{Kind}
use Rattle.au_expr.specs.Figures.{Fit}
use Rattle.au_algebra.specs.declared.query.Agg.{Agg}
use Rattle.au_algebra.specs.Bounded.{Bounded, combine}
use Rattle.au_algebra.specs.Fits.{triple_numbers}
use Rattle.au_algebra.specs.Laws.{IsRelation}
use Rattle.au_algebra.specs.Ordinary.{Rows}
use Rattle.au_algebra.specs.Trees.{Tree}
use Rattle.au_algebra.specs.Typing.{kinds_of}
use Rattle.au_blocks.specs.Tables.{BlockTable, column_kinds}
use Rattle.au_translate.specs.Translate.{bounded_table}
use Rattle.au_plain.specs.Plans.{PlanTree, Scan}
use Rattle.au_physical.specs.declared.physical.Physical.{Physical}
use Rattle.au_physical.specs.Physicals.{PhysicalTree, physical_tree}
use Rattle.au_plan.specs.Implements.{Implements}
use Rattle.au_encode.specs.Encode.{encode}
use Rattle.au_program.specs.Inputs.{ReadsAll}
use Rattle.au_program.specs.Rules.{tree_numbers, tree_rows}
use Rattle.au_program.specs.Sources.{AreParts, Behind, CanRun, Holds, IsFound, IsRead, IsThere, LeavesOver, PairsLeave, PairsOver, ProductRuns, StartsOver, StepRuns, Stops, count, part_rows}
use Rattle.au_program.specs.Stages.{Adds, AddsCompressed, AddsPairs, AddsTree, GroupsBy, Shows}
use Rattle.au_program.specs.declared.program.Program.{Program}
use Rattle.au_program.specs.declared.rules.Rules.{Rules}
use Rattle.au_program.specs.declared.sources.Pairing.{Pairing}
use Rattle.au_program.specs.declared.sources.Sources.{Sources}
use Rattle.au_program.specs.declared.sources.Sources.TheVariants as code
use Rattle.au_program.specs.declared.sources.Ways.{Ways}
use Rattle.au_program.specs.declared.sources.Ways.TheVariants as ways

-- What some sources hold, what they hold behind others, and what is known of the rows of both.
pub record HoldsBehind (ts : List BlockTable) (old : Sources) (known : List Rows → List Rows → Type 0) (rows : List Rows) : Type 0 where
  pub front : List Rows
  pub before : Holds ts old front
  pub knows : known front rows

-- Sources were put behind others. Over block tables of these kinds something is known of the rows that they hold; they can be
-- run where the others can; and a number that leaves the range is one of the others or of `numbers`.
pub record Puts (kinds : List (List Kind)) (known : List BlockTable → List Rows → List Rows → Type 0) (numbers : List BlockTable → List ℤ) (old new : Sources) : Type 0 where
  pub holds : (ts : List BlockTable) → map column_kinds ts ≡ kinds → (rows : List Rows) → Holds ts new rows → HoldsBehind ts old (known ts) rows
  pub runs : (ts : List BlockTable) → map column_kinds ts ≡ kinds → CanRun ts old → CanRun ts new
  pub stops : (ts : List BlockTable) → map column_kinds ts ≡ kinds → Stops ts new → Stops ts old ⊎ ¬ (Fit (numbers ts))

-- the numbers of a tree over block tables, and with them those of its combined rows
abbrev pub numbers_over : Rules → Tree → List BlockTable → List ℤ
numbers_over rules q ts = tree_numbers rules q (map bounded_table ts)

abbrev pub combined_over : Rules → Tree → List BlockTable → List ℤ
combined_over rules q ts = numbers_over rules q ts ++ triple_numbers (combine (tree_rows rules q (map bounded_table ts)))

-- a plan over sources that were put behind others gives the relation of a tree
abbrev pub PlansTree : Rules → List (List Kind) → Tree → Sources → Sources → PlanTree → ℕ → Type 0
PlansTree rules kinds q old new p c = Puts kinds (λ ts front rows. AddsTree rules ts q front rows p c) (numbers_over rules q) old new

-- a plan gives the combined relation of a tree that gives one
abbrev pub AddsCombined : Rules → List BlockTable → Tree → List Rows → List Rows → PlanTree → ℕ → Type 0
AddsCombined rules ts q old new p c =
    (ks : List Kind) → kinds_of (map column_kinds ts) q ≡ Some ks →
    Adds old new p c ks (combine (tree_rows rules q (map bounded_table ts))) (combined_over rules q ts) × IsRelation ks (tree_rows rules q (map bounded_table ts))

abbrev pub PlansCombined : Rules → List (List Kind) → Tree → Sources → Sources → PlanTree → ℕ → Type 0
PlansCombined rules kinds q old new p c = Puts kinds (λ ts front rows. AddsCombined rules ts q front rows p c) (combined_over rules q) old new

-- ---- steps

-- something was put behind sources
pub record IsBehind (old new : Sources) (last : List BlockTable → List Rows → Type 0) (runs stops : List BlockTable → Type 0) : Type 0 where
  pub holds : (ts : List BlockTable) (rows : List Rows) → Holds ts new rows → Behind (Holds ts old) (last ts) rows
  pub can_run : (ts : List BlockTable) → CanRun ts old → runs ts → CanRun ts new
  pub may_stop : (ts : List BlockTable) → Stops ts new → Stops ts old ⊎ stops ts

-- what is found over sources of its own
abbrev pub IsStepBehind : Sources → Sources → Sources → Ways → Type 0
IsStepBehind own old new how =
    IsBehind old new (λ ts. IsFound (Holds ts own) how) (λ ts. StepRuns (CanRun ts own) (StartsOver (Holds ts own) how)) (λ ts. Stops ts own ⊎ LeavesOver (Holds ts own) how)

-- the parts of two relations
abbrev pub IsPairingBehind : Sources → Sources → Sources → Sources → Pairing → Type 0
IsPairingBehind left right old new pairing =
    IsBehind old new (λ ts. AreParts (Holds ts left) (Holds ts right) pairing)
    (λ ts. ProductRuns (CanRun ts left) (CanRun ts right) (PairsOver (Holds ts left) (Holds ts right) pairing))
    (λ ts. Stops ts left ⊎ (Stops ts right ⊎ PairsLeave (Holds ts left) (Holds ts right) pairing))

-- The same table behind sources.
abbrev pub IsTableBehind : ℕ → Sources → Sources → Type 0
IsTableBehind place old new =
    IsBehind old new (λ ts. IsRead ts place None) (λ ts. IsThere ts place) (λ ts. ⊥)

-- What is held of sources of which other ones hold these rows, whatever stands behind them: a plan over these gives what another
-- one gives over those.
pub record HoldsMore (ts : List BlockTable) (old : Sources) (held : List Rows) (p q : PhysicalTree) : Type 0 where
  pub whole : List Rows
  pub of : Holds ts old whole
  pub reads : (rest : List Rows) → ReadsAll (whole ++ rest) (held ++ rest) p q

-- Of the sources' tables just the columns that a plan keeps are read: the plan gives over these what it gave over all.
pub record ReadsLess (old new : Sources) (p q : PhysicalTree) : Type 0 where
  pub holds : (ts : List BlockTable) (held : List Rows) → Holds ts new held → HoldsMore ts old held p q
  pub can_run : (ts : List BlockTable) → CanRun ts old → CanRun ts new
  pub may_stop : (ts : List BlockTable) → Stops ts new → Stops ts old

-- a plan over sources is ready to run: a physical plan stands for it, over sources of which it reads just what it keeps
pub record IsReady (old new : Sources) (p : PlanTree) (q : PhysicalTree) : Type 0 where
  pub improved : PhysicalTree
  pub stands : Implements p improved
  pub reads : ReadsLess old new improved q

-- a plan of so many columns is ready over sources of its own, and another plan scans what is found by it
pub record ScansStep (own : Sources) (p : PlanTree) (c : ℕ) (old new : Sources) (scan : PlanTree) (d : ℕ) : Type 0 where
  pub ready : Sources
  pub physical : Physical
  pub stands : IsReady own ready p (physical_tree physical)
  pub behind : IsStepBehind ready old new (ways.Plan physical)
  pub columns : d ≡ c
  pub is : scan ≡ Scan (count old) (3 * c + 3)

-- two plans of the groups of what a plan of so many columns gives, for rows whose keys repeat and for others
pub record ChoosesGroups (points : Bool) (keys : ℕ) (aggs : List Agg) (p : PlanTree) (c : ℕ) (how : Ways) : Type 0 where
  pub folded : PlanTree
  pub each : PlanTree
  pub first : Physical
  pub second : Physical
  pub groups_folded : GroupsBy points c keys aggs p folded
  pub groups_each : GroupsBy points c keys aggs p each
  pub first_stands : Implements folded (physical_tree first)
  pub second_stands : Implements each (physical_tree second)
  pub is : how ≡ ways.ByKeys keys first second

-- what one of them finds is scanned
pub record ScansGroups (points : Bool) (keys : ℕ) (aggs : List Agg) (own : Sources) (p : PlanTree) (c : ℕ) (old new : Sources) (scan : PlanTree) (d : ℕ) : Type 0 where
  pub how : Ways
  pub chooses : ChoosesGroups points keys aggs p c how
  pub behind : IsStepBehind own old new how
  pub columns : d ≡ keys + length aggs
  pub is : scan ≡ Scan (count old) (3 * (keys + length aggs) + 3)

-- ---- products that are compressed

-- a plan gives the pairs of the rows of two relations that stand behind so many tables
abbrev pub PairsAt : ℕ → ℕ → ℕ → PlanTree → ℕ → Type 0
PairsAt place m n p d = (front : List Rows) (l r : Bounded) → length front ≡ place → AddsPairs l m r n front (front ++ (encode l ∷ encode r ∷ [])) p d

-- a plan gives the pairs of the parts of two relations, which stand behind so many tables
abbrev pub PairsParts : ℕ → ℕ → ℕ → ℕ → PlanTree → ℕ → Type 0
PairsParts size place m n p d = (front : List Rows) (l r : Bounded) → length front ≡ place → AddsCompressed size l m r n front (front ++ part_rows size l r) p d

-- plans of both sides, of so many columns, are ready over sources of their own, and another plan gives the pairs of the parts of
-- what they find
pub record ScansPairs (size : ℕ) (lefts : Sources) (left : PlanTree) (m : ℕ) (rights : Sources) (right : PlanTree) (n : ℕ) (old new : Sources) (p : PlanTree) (d : ℕ) : Type 0 where
  pub ready_lefts : Sources
  pub ready_rights : Sources
  pub pairing : Pairing
  pub left_stands : IsReady lefts ready_lefts left (physical_tree pairing.left)
  pub right_stands : IsReady rights ready_rights right (physical_tree pairing.right)
  pub left_columns : pairing.left_columns ≡ m
  pub right_columns : pairing.right_columns ≡ n
  pub sizes : pairing.size ≡ size
  pub behind : IsPairingBehind ready_lefts ready_rights old new pairing
  pub adds : PairsParts size (count old) m n p d

-- ---- programs

-- a physical plan of so many columns over its sources stands for the plan of what is shown of a tree
pub record ShowsTree (rules : Rules) (combined : Bool) (kinds : List (List Kind)) (q : Tree) (sources : Sources) (p : PhysicalTree) (d : ℕ) : Type 0 where
  pub own : Sources
  pub of : PlanTree
  pub shown : PlanTree
  pub columns : ℕ
  pub plans : PlansTree rules kinds q code.Nothing own of columns
  pub shows : Shows combined columns of shown
  pub wide : d ≡ columns
  pub ready : IsReady own sources shown p

-- the program of what is shown of a tree
abbrev pub IsProgram : Rules → Bool → List (List Kind) → Tree → Program → Type 0
IsProgram rules combined kinds q p = ShowsTree rules combined kinds q p.sources (physical_tree p.plan) p.columns
