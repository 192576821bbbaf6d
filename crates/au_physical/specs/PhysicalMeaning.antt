-- The rows of a physical plan over the tables' lists of rows, read in order: each line from the first row on.
-- A join takes the left rows in order, and for each of them its right rows in order.
use Rattle.std.specs.Prelude.{ℕ, Bool, ◌&&◌, ◌||◌, List, [], ◌++◌, map, filter, flat_map, unwrap_or, slice_get}
use Rattle.std.specs.List.{list_all}
use Rattle.au_value.specs.declared.value.Value.{Value}
use Rattle.au_value.specs.Order.{at_most, below, equal}
use Rattle.au_algebra.specs.Lists.{sorted_by, value_at}
use Rattle.au_algebra.specs.Ordinary.{Rows}
use Rattle.au_plain.specs.Meaning.{extended, kept, passes, plain_group}
use Rattle.au_physical.specs.declared.physical.Bounds.{Bounds}
use Rattle.au_physical.specs.Physicals.{PhysicalTree}
use Rattle.au_physical.specs.Physicals as physical

-- each left row followed by each right row that is chosen for it
abbrev pub pairs_where : (List Value → List Value → Bool) → Rows → Rows → Rows
pairs_where chosen xs ys = flat_map (λ a. map (λ b. a ++ b) (filter (chosen a) ys)) xs

-- the left and the right row are equal in the columns of each pair of places
abbrev pub equal_at : List (ℕ × ℕ) → List Value → List Value → Bool
equal_at places a b = list_all (λ p. equal (value_at a p.0) (value_at b p.1)) places

-- the ranges of the left and of the right row overlap
abbrev pub overlaps : Bounds → List Value → List Value → Bool
overlaps at a b =
    at_most (value_at a at.left_lo) (value_at b at.right_hi) && at_most (value_at b at.right_lo) (value_at a at.left_hi)

-- one right row may stand before another: by the lower ends of their ranges, then by the upper ends
abbrev pub range_at_most : Bounds → List Value → List Value → Bool
range_at_most at a b =
    below (value_at a at.right_lo) (value_at b at.right_lo)
    || (equal (value_at a at.right_lo) (value_at b at.right_lo) && at_most (value_at a at.right_hi) (value_at b at.right_hi))

-- right rows ordered by lower end, upper end and place
abbrev pub by_range : Bounds → Rows → Rows
by_range at rows = sorted_by (range_at_most at) rows

-- the pairs of a Hash, and of an Overlap, before their expression is tested
abbrev pub equal_pairs : List (ℕ × ℕ) → Rows → Rows → Rows
equal_pairs places xs ys = pairs_where (equal_at places) xs ys

abbrev pub overlap_pairs : Bounds → Rows → Rows → Rows
overlap_pairs at xs ys = pairs_where (overlaps at) xs (by_range at ys)

-- the rows, in order
abbrev pub physical_rows : PhysicalTree → List Rows → Rows
physical_rows (physical.Scan t w) ts = unwrap_or (slice_get ts t) []
physical_rows (physical.Rows w rows) ts = rows
physical_rows (physical.Extend e p) ts = map (extended e) (physical_rows p ts)
physical_rows (physical.Keep places p) ts = map (kept places) (physical_rows p ts)
physical_rows (physical.Filter e p) ts = filter (passes e) (physical_rows p ts)
physical_rows (physical.Nested e p q) ts =
    filter (passes e) (flat_map (λ a. map (λ b. a ++ b) (physical_rows q ts)) (physical_rows p ts))
physical_rows (physical.Hash places e p q) ts = filter (passes e) (equal_pairs places (physical_rows p ts) (physical_rows q ts))
physical_rows (physical.Overlap at e p q) ts = filter (passes e) (overlap_pairs at (physical_rows p ts) (physical_rows q ts))
physical_rows (physical.Union p q) ts = physical_rows p ts ++ physical_rows q ts
physical_rows (physical.Group keys aggs p) ts = plain_group keys aggs (physical_rows p ts)
