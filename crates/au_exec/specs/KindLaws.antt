-- What the known kinds of a plan say of its rows.
use Rattle.std.specs.Prelude.{List, [], map, unwrap_or}
use Rattle.au_algebra.specs.Ordinary.{Rows}
use Rattle.au_plain.specs.PlanKinds.{HaveKinds}
use Rattle.au_physical.specs.PhysicalKinds.{IsPhysicalFor}
use Rattle.au_physical.specs.PhysicalMeaning.{physical_rows}
use Rattle.au_physical.specs.Physicals.{PhysicalTree}
use Rattle.au_exec.specs.KnownKinds.{first_kinds, known_kinds}

-- A typed plan's rows have the kinds that the first rows of its tables tell. Where nothing is told, there is no row.
abbrev pub KnownKindsHold : Type 0
KnownKindsHold =
    (p : PhysicalTree) (ts : List Rows) →
    IsPhysicalFor ts p → HaveKinds (unwrap_or (known_kinds (map first_kinds ts) p) []) (physical_rows p ts)
