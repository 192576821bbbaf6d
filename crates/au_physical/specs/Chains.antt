-- Plans that work row by row over one table: operators that do so, over the Scan of it.
use Rattle.std.specs.Prelude.{◌==◌, Bool, false}
use Rattle.au_physical.specs.Physicals.{PhysicalTree}
use Rattle.au_physical.specs.Physicals as physical

-- the plan works row by row over the first table
abbrev pub is_chain : PhysicalTree → Bool
is_chain (physical.Scan t w) = t == 0
is_chain (physical.Rows w rows) = false
is_chain (physical.Extend e p) = is_chain p
is_chain (physical.Keep places p) = is_chain p
is_chain (physical.Filter e p) = is_chain p
is_chain (physical.Nested e p q) = false
is_chain (physical.Hash places e p q) = false
is_chain (physical.Overlap at e p q) = false
is_chain (physical.Union p q) = false
is_chain (physical.Group keys aggs p) = false
