-- By which rules an answer is formed. Of a product all pairs are formed, or those of the guesses and of what is possible,
-- where this is put into at most so many rows for each side. Groups and distinct rows are formed by the hulls of keys, or
-- by points.
use Rattle.std.specs.Prelude.{ℕ, ◌≤◌, Bool, true, false, List, Option, Some, None, ⊤, ℤ}
use Rattle.au_algebra.specs.Bounded.{Bounded, product}
use Rattle.au_algebra.specs.Fits.{triple_numbers}
use Rattle.au_algebra.specs.Trees.{Tree}
use Rattle.au_compress.specs.CompressedFits.{product_numbers}
use Rattle.au_compress.specs.Splitting.{compressed_product}
use Rattle.au_points.specs.Groupings.{Grouping, bounded_with, by_hulls}
use Rattle.au_points.specs.GroupingFits.{numbers_with}
use Rattle.au_points.specs.Points.{by_points}
use Rattle.au_program.specs.declared.rules.Rules.{Rules}

-- the number of rows that may be asked for, if any
abbrev pub IsCompression : Option ℕ → Type 0
IsCompression None = ⊤
IsCompression (Some n) = (1 ≤ n) × (n ≤ 1000)

-- those of the bounded answer
abbrev pub plain_rules : Rules
plain_rules = record { compress = None; points = false }

-- the pairs of two relations, and the numbers that their making adds
abbrev pub pairs_by : Option ℕ → Bounded → Bounded → Bounded
pairs_by None = product
pairs_by (Some n) = compressed_product n

abbrev pub pair_numbers : Option ℕ → Bounded → Bounded → List ℤ
pair_numbers None = λ xs ys. triple_numbers (product xs ys)
pair_numbers (Some n) = product_numbers n

-- the groups and the distinct rows of a relation
abbrev pub grouping_by : Bool → Grouping
grouping_by false = by_hulls
grouping_by true = by_points

-- the relation of a tree, and the numbers of its making
abbrev pub tree_rows : Rules → Tree → List Bounded → Bounded
tree_rows rules q ts = bounded_with (pairs_by rules.compress) (grouping_by rules.points) q ts

abbrev pub tree_numbers : Rules → Tree → List Bounded → List ℤ
tree_numbers rules q ts = numbers_with (pairs_by rules.compress) (pair_numbers rules.compress) (grouping_by rules.points) q ts
