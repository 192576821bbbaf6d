-- The widths of plans over cells. A batch holds its rows by columns, so that they all have one width; here it is the plan's.
use Rattle.std.specs.Prelude.{◌≡◌, ◌+◌, ℕ, List, [], length, slice_get, unwrap_or}
use Rattle.std.specs.List.{AllByRecursion}
use Rattle.au_algebra.specs.Ordinary.{Rows}
use Rattle.au_physical.specs.Physicals.{PhysicalTree}
use Rattle.au_physical.specs.Physicals as physical
use Rattle.au_physical.specs.PhysicalKinds.{IsPhysicalFor}
use Rattle.au_codes.specs.Codes.{CellRows, Code, coded_tables}
use Rattle.au_codes.specs.CodedPlans.{coded_tree}

-- the width of a plan's rows
abbrev pub plan_width : PhysicalTree → ℕ
plan_width (physical.Scan t w) = w
plan_width (physical.Rows w rows) = w
plan_width (physical.Extend e p) = plan_width p + 1
plan_width (physical.Keep places p) = length places
plan_width (physical.Filter e p) = plan_width p
plan_width (physical.Nested e p q) = plan_width p + plan_width q
plan_width (physical.Hash places e p q) = plan_width p + plan_width q
plan_width (physical.Overlap at e p q) = plan_width p + plan_width q
plan_width (physical.Union p q) = plan_width p
plan_width (physical.Group keys aggs p) = length keys + length aggs

-- each row has this width
abbrev pub HaveWidth : {A : Type 0} → ℕ → List (List A) → Type 0
HaveWidth w rows = AllByRecursion (λ row. length row ≡ w) rows

-- each table that is scanned, and each list of rows, has the width that the plan names, and both sides of a Union have one
abbrev pub AreWide : PhysicalTree → List CellRows → Type 0
AreWide (physical.Scan t w) ts = HaveWidth w (unwrap_or (slice_get ts t) [])
AreWide (physical.Rows w rows) ts = HaveWidth w rows
AreWide (physical.Extend e p) ts = AreWide p ts
AreWide (physical.Keep places p) ts = AreWide p ts
AreWide (physical.Filter e p) ts = AreWide p ts
AreWide (physical.Nested e p q) ts = AreWide p ts × AreWide q ts
AreWide (physical.Hash places e p q) ts = AreWide p ts × AreWide q ts
AreWide (physical.Overlap at e p q) ts = AreWide p ts × AreWide q ts
AreWide (physical.Union p q) ts = AreWide p ts × AreWide q ts × (plan_width q ≡ plan_width p)
AreWide (physical.Group keys aggs p) ts = AreWide p ts

-- A plan that is typed for tables has its widths over their cells, whatever the numbers of texts.
abbrev pub TypedPlansAreWide : Type 0
TypedPlansAreWide = (c : Code) (p : PhysicalTree) (ts : List Rows) → IsPhysicalFor ts p → AreWide (coded_tree c p) (coded_tables c ts)
