-- The numbers of a physical plan: the values that it evaluates, and the magnitudes of each sum, added.
-- Hash and Overlap evaluate their expression on the pairs alone that meet their first test.
use Rattle.std.specs.Prelude.{List, [], ◌++◌, map, flat_map, ℤ}
use Rattle.au_algebra.specs.Ordinary.{Rows}
use Rattle.au_plain.specs.PlanNumbers.{term_numbers, group_numbers}
use Rattle.au_physical.specs.Physicals.{PhysicalTree}
use Rattle.au_physical.specs.Physicals as physical
use Rattle.au_physical.specs.PhysicalMeaning.{physical_rows, equal_pairs, overlap_pairs}

abbrev pub physical_numbers : PhysicalTree → List Rows → List ℤ
physical_numbers (physical.Scan t w) ts = []
physical_numbers (physical.Rows w rows) ts = []
physical_numbers (physical.Extend e p) ts = physical_numbers p ts ++ flat_map (term_numbers e) (physical_rows p ts)
physical_numbers (physical.Keep places p) ts = physical_numbers p ts
physical_numbers (physical.Filter e p) ts = physical_numbers p ts ++ flat_map (term_numbers e) (physical_rows p ts)
physical_numbers (physical.Nested e p q) ts =
    (physical_numbers p ts ++ physical_numbers q ts)
    ++ flat_map (term_numbers e) (flat_map (λ a. map (λ b. a ++ b) (physical_rows q ts)) (physical_rows p ts))
physical_numbers (physical.Hash places e p q) ts =
    (physical_numbers p ts ++ physical_numbers q ts)
    ++ flat_map (term_numbers e) (equal_pairs places (physical_rows p ts) (physical_rows q ts))
physical_numbers (physical.Overlap at e p q) ts =
    (physical_numbers p ts ++ physical_numbers q ts)
    ++ flat_map (term_numbers e) (overlap_pairs at (physical_rows p ts) (physical_rows q ts))
physical_numbers (physical.Union p q) ts = physical_numbers p ts ++ physical_numbers q ts
physical_numbers (physical.Group keys aggs p) ts = physical_numbers p ts ++ group_numbers keys aggs (physical_rows p ts)
