-- The Scans of one table in a physical plan, and the plan that scans a narrower one in its place.
use Rattle.std.specs.Prelude.{ℕ, Bool, true, false, not, ◌&&◌, ◌==◌, nat_eq, List, Option, Some, None, if◌then◌else◌}
use Rattle.std.specs.Cmp.Lexicographic.{pointwise}
use Rattle.std.specs.Option.{option_or}
use Rattle.au_physical.specs.Physicals.{PhysicalTree}
use Rattle.au_physical.specs.Physicals as physical

-- the plan is a Scan of table t
abbrev pub is_scan : ℕ → PhysicalTree → Bool
is_scan t (physical.Scan u w) = u == t
is_scan t _ = false

-- the places of the first Keep right above a Scan of table t
abbrev pub first_places : ℕ → PhysicalTree → Option (List ℕ)
first_places t (physical.Scan u w) = None
first_places t (physical.Rows w rows) = None
first_places t (physical.Extend e p) = first_places t p
first_places t (physical.Keep places p) = if is_scan t p then Some places else first_places t p
first_places t (physical.Filter e p) = first_places t p
first_places t (physical.Nested e p q) = option_or (first_places t p) (first_places t q)
first_places t (physical.Hash places e p q) = option_or (first_places t p) (first_places t q)
first_places t (physical.Overlap at e p q) = option_or (first_places t p) (first_places t q)
first_places t (physical.Union p q) = option_or (first_places t p) (first_places t q)
first_places t (physical.Group keys aggs p) = first_places t p

-- each Scan of table t stands right below a Keep of these places
abbrev pub reads : ℕ → List ℕ → PhysicalTree → Bool
reads t ps (physical.Scan u w) = not (u == t)
reads t ps (physical.Rows w rows) = true
reads t ps (physical.Extend e p) = reads t ps p
reads t ps (physical.Keep places p) = if is_scan t p then pointwise nat_eq places ps else reads t ps p
reads t ps (physical.Filter e p) = reads t ps p
reads t ps (physical.Nested e p q) = reads t ps p && reads t ps q
reads t ps (physical.Hash places e p q) = reads t ps p && reads t ps q
reads t ps (physical.Overlap at e p q) = reads t ps p && reads t ps q
reads t ps (physical.Union p q) = reads t ps p && reads t ps q
reads t ps (physical.Group keys aggs p) = reads t ps p

-- the plan with a Scan of table t, of width n, in place of each Keep right above one
abbrev pub narrowed : ℕ → ℕ → PhysicalTree → PhysicalTree
narrowed t n (physical.Scan u w) = physical.Scan u w
narrowed t n (physical.Rows w rows) = physical.Rows w rows
narrowed t n (physical.Extend e p) = physical.Extend e (narrowed t n p)
narrowed t n (physical.Keep places p) = if is_scan t p then physical.Scan t n else physical.Keep places (narrowed t n p)
narrowed t n (physical.Filter e p) = physical.Filter e (narrowed t n p)
narrowed t n (physical.Nested e p q) = physical.Nested e (narrowed t n p) (narrowed t n q)
narrowed t n (physical.Hash places e p q) = physical.Hash places e (narrowed t n p) (narrowed t n q)
narrowed t n (physical.Overlap at e p q) = physical.Overlap at e (narrowed t n p) (narrowed t n q)
narrowed t n (physical.Union p q) = physical.Union (narrowed t n p) (narrowed t n q)
narrowed t n (physical.Group keys aggs p) = physical.Group keys aggs (narrowed t n p)
