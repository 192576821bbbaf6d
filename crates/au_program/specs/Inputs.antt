-- What a plan reads of its inputs: a plan over rows that hold just the columns which it reads gives what the plan over the
-- whole rows gives.
use Rattle.std.specs.Prelude.{◌≡◌, ℕ, List, [], ◌∷◌, ◌++◌, length}
use Rattle.au_value.specs.declared.kinds.Kind.{Kind}
use Rattle.au_algebra.specs.Ordinary.{Rows}
use Rattle.au_plain.specs.PlanKinds.{FitTables, HaveKinds}
use Rattle.au_plain.specs.Plans.{PlanTree}
use Rattle.au_physical.specs.PhysicalKinds.{IsPhysicalFor, IsTypedPhysical, physical_kinds}
use Rattle.au_physical.specs.PhysicalMeaning.{physical_rows}
use Rattle.au_physical.specs.PhysicalNumbers.{physical_numbers}
use Rattle.au_physical.specs.Physicals.{PhysicalTree}
use Rattle.au_plan.specs.Implements.{Implements}

-- Of the t-th table some rows are held, and plan q gives over them what p gives over all that the table has.
pub record Reads (t : ℕ) (whole held : Rows) (p q : PhysicalTree) : Type 0 where
  pub kinds :
      (front back : List (List Kind)) (ks : List Kind) → length front ≡ t → HaveKinds ks whole → IsTypedPhysical (front ++ ks ∷ back) p →
      (js : List Kind) × (HaveKinds js held × (physical_kinds (front ++ js ∷ back) q ≡ physical_kinds (front ++ ks ∷ back) p))
  pub rows : (front back : List Rows) → length front ≡ t → physical_rows q (front ++ held ∷ back) ≡ physical_rows p (front ++ whole ∷ back)
  pub numbers : (front back : List Rows) → length front ≡ t → physical_numbers q (front ++ held ∷ back) ≡ physical_numbers p (front ++ whole ∷ back)

-- The same of all tables.
pub record ReadsAll (whole held : List Rows) (p q : PhysicalTree) : Type 0 where
  pub typed : IsPhysicalFor whole p → IsPhysicalFor held q
  pub rows : physical_rows q held ≡ physical_rows p whole
  pub numbers : physical_numbers q held ≡ physical_numbers p whole

-- A physical plan that stands for a plan, and what it reads.
pub record StandsReady (whole held : List Rows) (p : PlanTree) (q : PhysicalTree) : Type 0 where
  pub improved : PhysicalTree
  pub stands : Implements p improved
  pub reads : ReadsAll whole held improved q
  pub fit : FitTables whole

-- The rows that a plan reads of its next input are put behind those of the inputs before it.
pub record ReadsNext (whole : Rows) (before now : List Rows) (p q : PhysicalTree) : Type 0 where
  pub held : Rows
  pub behind : now ≡ before ++ held ∷ []
  pub reads : Reads (length before) whole held p q
