-- What a plan reads before it is there: the encoded rows of tables, what other plans find over sources of their own, and the
-- parts of two relations whose product is compressed. Each of these gives rows to the plan's tables, one after the other.
use Rattle.std.specs.Prelude.{◌≡◌, ◌⊎◌, ◌+◌, ◌≤◌, ◌&&◌, ℕ, ⊤, false, List, [], ◌∷◌, ◌++◌, Option, Some, slice_get, Vec}
use Rattle.std.specs.declared.alloc.Global.{Global}
use Rattle.au_expr.specs.Figures.{fit}
use Rattle.au_algebra.specs.Bounded.{Bounded}
use Rattle.au_algebra.specs.Ordinary.{Rows}
use Rattle.au_blocks.specs.Tables.{BlockTable, IsBlockTable}
use Rattle.au_translate.specs.Translate.{bounded_table}
use Rattle.au_compress.specs.Splitting.{compressed, compressed_fits, guess_part}
use Rattle.au_plain.specs.PlanKinds.{FitRows, FitTables}
use Rattle.au_physical.specs.PhysicalKinds.{IsPhysicalFor}
use Rattle.au_physical.specs.PhysicalMeaning.{physical_rows}
use Rattle.au_physical.specs.PhysicalNumbers.{physical_numbers}
use Rattle.au_physical.specs.Physicals.{physical_tree}
use Rattle.au_encode.specs.Encode.{AreEncoded, decode, encode}
use Rattle.au_program.specs.KeptRows.{kept_rows}
use Rattle.au_program.specs.Stages.{HaveSides}
use Rattle.au_program.specs.declared.sources.Pairing.{Pairing}
use Rattle.au_program.specs.declared.sources.Sources.{Sources}
use Rattle.au_program.specs.declared.sources.Sources.TheVariants as code
use Rattle.au_program.specs.declared.sources.Ways.{Ways}
use Rattle.au_program.specs.declared.sources.Ways.TheVariants as ways

-- how many tables of the plan they are
abbrev pub count : Sources → ℕ
count code.Nothing = 0
count (code.Table' p before place kept) = count before + 1
count (code.Step' p before q own how) = count before + 1
count (code.Pairs' p before q left r right pairing) = count before + 4

-- rows behind those of other sources
pub record Behind (First Last : List Rows → Type 0) (rows : List Rows) : Type 0 where
  pub front : List Rows
  pub back : List Rows
  pub before : First front
  pub here : Last back
  pub are : rows ≡ front ++ back

-- ---- tables

-- the table at a place, whose encoded rows hold no number outside the range
pub record IsTableAt (ts : List BlockTable) (i : ℕ) (t : BlockTable) : Type 0 where
  pub there : slice_get ts i ≡ Some t
  pub is_table : IsBlockTable t
  pub fit : FitRows (encode (bounded_table t))

abbrev pub IsThere : List BlockTable → ℕ → Type 0
IsThere ts i = (t : BlockTable) × (slice_get ts i ≡ Some t)

-- what is read of it
pub record IsRead (ts : List BlockTable) (i : ℕ) (places : Option (Vec ℕ Global)) (rows : List Rows) : Type 0 where
  pub table : BlockTable
  pub at : IsTableAt ts i table
  pub are : rows ≡ kept_rows places (encode (bounded_table table)) ∷ []

-- ---- what a step finds

-- by its plan, or by one of two plans
abbrev pub Gives : Ways → List Rows → Rows → Type 0
Gives (ways.Plan p) held found = found ≡ physical_rows (physical_tree p) held
Gives (ways.ByKeys keys p q) held found = (found ≡ physical_rows (physical_tree p) held) ⊎ (found ≡ physical_rows (physical_tree q) held)

-- each of them can be run
abbrev pub CanStart : Ways → List Rows → Type 0
CanStart (ways.Plan p) held = IsPhysicalFor held (physical_tree p)
CanStart (ways.ByKeys keys p q) held = IsPhysicalFor held (physical_tree p) × IsPhysicalFor held (physical_tree q)

-- a number of one of them leaves the range
abbrev pub Leaves : Ways → List Rows → Type 0
Leaves (ways.Plan p) held = fit (physical_numbers (physical_tree p) held) ≡ false
Leaves (ways.ByKeys keys p q) held = (fit (physical_numbers (physical_tree p) held) ≡ false) ⊎ (fit (physical_numbers (physical_tree q) held) ≡ false)

-- over some rows of its own sources
pub record IsFound (Own : List Rows → Type 0) (how : Ways) (rows : List Rows) : Type 0 where
  pub held : List Rows
  pub of : Own held
  pub found : Rows
  pub gives : Gives how held found
  pub fit : FitRows found
  pub are : rows ≡ found ∷ []

abbrev pub StartsOver : (List Rows → Type 0) → Ways → Type 0
StartsOver Own how = (held : List Rows) → Own held → CanStart how held

abbrev pub LeavesOver : (List Rows → Type 0) → Ways → Type 0
LeavesOver Own how = (held : List Rows) × (Own held × Leaves how held)

-- ---- products that are compressed

-- the relations that both sides' plans give
abbrev pub left_side : Pairing → List Rows → Bounded
left_side pairing held = decode pairing.left_columns (physical_rows (physical_tree pairing.left) held)

abbrev pub right_side : Pairing → List Rows → Bounded
right_side pairing held = decode pairing.right_columns (physical_rows (physical_tree pairing.right) held)

-- the guesses of both, and what is possible of each
abbrev pub part_rows : ℕ → Bounded → Bounded → List Rows
part_rows size left right = encode (guess_part left) ∷ encode (guess_part right) ∷ encode (compressed size left) ∷ encode (compressed size right) ∷ []

pub record AreParts (Left Right : List Rows → Type 0) (pairing : Pairing) (rows : List Rows) : Type 0 where
  pub lefts : List Rows
  pub rights : List Rows
  pub of_left : Left lefts
  pub of_right : Right rights
  pub fit : FitTables rows
  pub are : rows ≡ part_rows pairing.size (left_side pairing lefts) (right_side pairing rights)

-- both plans can be run, what they give can be decoded, and the parts can be formed
pub record PairsOver (Left Right : List Rows → Type 0) (pairing : Pairing) : Type 0 where
  pub size : (1 ≤ pairing.size) × (pairing.size ≤ 1000)
  pub left : (held : List Rows) → Left held → IsPhysicalFor held (physical_tree pairing.left)
  pub left_rows : (held : List Rows) → Left held → AreEncoded pairing.left_columns (physical_rows (physical_tree pairing.left) held)
  pub right : (held : List Rows) → Right held → IsPhysicalFor held (physical_tree pairing.right)
  pub right_rows : (held : List Rows) → Right held → AreEncoded pairing.right_columns (physical_rows (physical_tree pairing.right) held)
  pub sides :
      (lefts rights : List Rows) → Left lefts → Right rights →
      HaveSides (left_side pairing lefts) pairing.left_columns (right_side pairing rights) pairing.right_columns

-- a number of a side's plan, or of what is possible of a side, leaves the range
abbrev pub LeftLeaves : (List Rows → Type 0) → Pairing → Type 0
LeftLeaves Left pairing = (held : List Rows) × (Left held × (fit (physical_numbers (physical_tree pairing.left) held) ≡ false))

abbrev pub RightLeaves : (List Rows → Type 0) → Pairing → Type 0
RightLeaves Right pairing = (held : List Rows) × (Right held × (fit (physical_numbers (physical_tree pairing.right) held) ≡ false))

pub record PartsLeave (Left Right : List Rows → Type 0) (pairing : Pairing) : Type 0 where
  pub lefts : List Rows
  pub rights : List Rows
  pub of_left : Left lefts
  pub of_right : Right rights
  pub leave : (compressed_fits pairing.size (left_side pairing lefts) && compressed_fits pairing.size (right_side pairing rights)) ≡ false

abbrev pub PairsLeave : (List Rows → Type 0) → (List Rows → Type 0) → Pairing → Type 0
PairsLeave Left Right pairing = LeftLeaves Left pairing ⊎ (RightLeaves Right pairing ⊎ PartsLeave Left Right pairing)

-- ---- sources over block tables

-- a step, and a product, can be run where their own sources and plans can
pub record StepRuns (Own Over : Type 0) : Type 0 where
  pub sources : Own
  pub plan : Over

pub record ProductRuns (Left Right Over : Type 0) : Type 0 where
  pub lefts : Left
  pub rights : Right
  pub plans : Over

-- these rows are read, found and formed, one after the other
abbrev pub Holds : List BlockTable → Sources → List Rows → Type 0
Holds ts code.Nothing rows = rows ≡ []
Holds ts (code.Table' p before place places) rows = Behind (Holds ts before) (IsRead ts place places) rows
Holds ts (code.Step' p before q own how) rows = Behind (Holds ts before) (IsFound (Holds ts own) how) rows
Holds ts (code.Pairs' p before q left r right pairing) rows = Behind (Holds ts before) (AreParts (Holds ts left) (Holds ts right) pairing) rows

-- the tables are there, and each plan can be run over whatever its sources hold
abbrev pub CanRun : List BlockTable → Sources → Type 0
CanRun ts code.Nothing = ⊤
CanRun ts (code.Table' p before place places) = CanRun ts before × IsThere ts place
CanRun ts (code.Step' p before q own how) = CanRun ts before × StepRuns (CanRun ts own) (StartsOver (Holds ts own) how)
CanRun ts (code.Pairs' p before q left r right pairing) = CanRun ts before × ProductRuns (CanRun ts left) (CanRun ts right) (PairsOver (Holds ts left) (Holds ts right) pairing)

-- a number of a plan leaves the range over something that its sources hold
abbrev pub Stops : List BlockTable → Sources → Type 0
Stops ts code.Nothing = ⊥
Stops ts (code.Table' p before place places) = Stops ts before
Stops ts (code.Step' p before q own how) = Stops ts before ⊎ (Stops ts own ⊎ LeavesOver (Holds ts own) how)
Stops ts (code.Pairs' p before q left r right pairing) = Stops ts before ⊎ (Stops ts left ⊎ (Stops ts right ⊎ PairsLeave (Holds ts left) (Holds ts right) pairing))
