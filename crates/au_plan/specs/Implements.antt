-- When a physical plan stands for a plan: it has the plan's kinds and, up to order, its rows,
-- and leaves the range only where the plan does.
use Rattle.std.specs.Prelude.{◌≡◌, List, Some}
use Rattle.au_value.specs.declared.kinds.Kind.{Kind}
use Rattle.au_expr.specs.Figures.{Fit}
use Rattle.au_algebra.specs.Lists.{SameUpToOrder, same_row}
use Rattle.au_algebra.specs.Ordinary.{Rows}
use Rattle.au_plain.specs.Plans.{PlanTree}
use Rattle.au_plain.specs.Meaning.{plain_rows}
use Rattle.au_plain.specs.PlanKinds.{plan_kinds, IsTypedFor, FitTables}
use Rattle.au_plain.specs.PlanNumbers.{plan_numbers}
use Rattle.au_physical.specs.Physicals.{PhysicalTree}
use Rattle.au_physical.specs.PhysicalMeaning.{physical_rows}
use Rattle.au_physical.specs.PhysicalKinds.{physical_kinds}
use Rattle.au_physical.specs.PhysicalNumbers.{physical_numbers}

-- over all tables for which the plan is typed
pub record Implements (p : PlanTree) (q : PhysicalTree) : Type 0 where
  pub typed : (kinds : List (List Kind)) (ks : List Kind) → plan_kinds kinds p ≡ Some ks → physical_kinds kinds q ≡ Some ks
  pub rows : (ts : List Rows) → IsTypedFor ts p → SameUpToOrder same_row (physical_rows q ts) (plain_rows p ts)
  pub numbers : (ts : List Rows) → FitTables ts → IsTypedFor ts p → Fit (plan_numbers p ts) → Fit (physical_numbers q ts)
