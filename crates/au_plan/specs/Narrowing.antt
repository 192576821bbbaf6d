-- Plans that read of one table only the columns at some places.
use Rattle.std.specs.Prelude.{◌≡◌, ℕ, List, ◌∷◌, ◌++◌, length, map, Some}
use Rattle.au_value.specs.declared.kinds.Kind.{Kind}
use Rattle.au_algebra.specs.Ordinary.{Rows}
use Rattle.au_plain.specs.Meaning.{kept}
use Rattle.au_plain.specs.PlanKinds.{kept_kinds}
use Rattle.au_physical.specs.Physicals.{PhysicalTree}
use Rattle.au_physical.specs.PhysicalMeaning.{physical_rows}
use Rattle.au_physical.specs.PhysicalKinds.{IsTypedPhysical, physical_kinds}
use Rattle.au_physical.specs.PhysicalNumbers.{physical_numbers}

-- Plan q gives over tables of which the t-th holds only the columns at these places what p gives over the whole tables.
pub record Narrows (t : ℕ) (ps : List ℕ) (p q : PhysicalTree) : Type 0 where
  pub kinds :
      (front back : List (List Kind)) (ks : List Kind) → length front ≡ t → IsTypedPhysical (front ++ ks ∷ back) p
      → (js : List Kind) × ((kept_kinds ps ks ≡ Some js) × (physical_kinds (front ++ js ∷ back) q ≡ physical_kinds (front ++ ks ∷ back) p))
  pub rows :
      (front back : List Rows) (whole : Rows) → length front ≡ t
      → physical_rows q (front ++ map (kept ps) whole ∷ back) ≡ physical_rows p (front ++ whole ∷ back)
  pub numbers :
      (front back : List Rows) (whole : Rows) → length front ≡ t
      → physical_numbers q (front ++ map (kept ps) whole ∷ back) ≡ physical_numbers p (front ++ whole ∷ back)
