-- Physical plans without where they lie in memory,
-- and the tree of a physical plan.
use Rattle.std.specs.Prelude.{ℕ, List, map}
use Rattle.au_value.specs.declared.value.Value.{Value}
use Rattle.au_plain.specs.declared.plan.PAgg.{PAgg}
use Rattle.au_plain.specs.PTerms.{PTerm, pterm}
use Rattle.au_physical.specs.declared.physical.Bounds.{Bounds}
use Rattle.au_physical.specs.declared.physical.Physical.{Physical}
use Rattle.au_physical.specs.declared.physical.Physical.TheVariants as code

pub data PhysicalTree : Type 0 where
  Scan : ℕ → ℕ → PhysicalTree
  Rows : ℕ → List (List Value) → PhysicalTree
  Extend : PTerm → PhysicalTree → PhysicalTree
  Keep : List ℕ → PhysicalTree → PhysicalTree
  Filter : PTerm → PhysicalTree → PhysicalTree
  Nested : PTerm → PhysicalTree → PhysicalTree → PhysicalTree
  Hash : List (ℕ × ℕ) → PTerm → PhysicalTree → PhysicalTree → PhysicalTree
  Overlap : Bounds → PTerm → PhysicalTree → PhysicalTree → PhysicalTree
  Union : PhysicalTree → PhysicalTree → PhysicalTree
  Group : List ℕ → List PAgg → PhysicalTree → PhysicalTree

-- the tree of a physical plan
abbrev pub physical_tree : Physical → PhysicalTree
physical_tree (code.Scan t w) = Scan t w
physical_tree (code.Rows w rows) = Rows w (map (λ row. row.items) rows.items)
physical_tree (code.Extend' e p q) = Extend (pterm e) (physical_tree q)
physical_tree (code.Keep' places p q) = Keep places.items (physical_tree q)
physical_tree (code.Filter' e p q) = Filter (pterm e) (physical_tree q)
physical_tree (code.Nested' e p a q b) = Nested (pterm e) (physical_tree a) (physical_tree b)
physical_tree (code.Hash' pairs e p a q b) = Hash pairs.items (pterm e) (physical_tree a) (physical_tree b)
physical_tree (code.Overlap' bounds e p a q b) = Overlap bounds (pterm e) (physical_tree a) (physical_tree b)
physical_tree (code.Union' p a q b) = Union (physical_tree a) (physical_tree b)
physical_tree (code.Group' keys aggs p q) = Group keys.items aggs.items (physical_tree q)
