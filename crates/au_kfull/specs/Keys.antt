-- The columns by which rows are told apart,
-- and rows whose columns have given kinds.
use Rattle.std.specs.Prelude.{◌≡◌, List, map, take}
use Rattle.std.specs.List.{AllByRecursion}
use Rattle.au_value.specs.declared.kinds.Kind.{Kind}
use Rattle.au_value.specs.Order.{kind_of}
use Rattle.au_value.specs.Ranges.{Span}
use Rattle.au_algebra.specs.Bounded.{Bounded}
use Rattle.au_kfull.specs.declared.keys.Keys.{Keys}
use Rattle.au_kfull.specs.declared.keys.Keys.TheVariants.{Leading, All}

-- the leading columns, or all
abbrev pub keys_of : Keys → List Span → List Span
keys_of (Leading n) cells = take n cells
keys_of All cells = cells

-- the kinds of ranges
abbrev pub kinds : List Span → List Kind
kinds rs = map (λ r. kind_of r.sg) rs

-- rows of ranges of these kinds
abbrev pub HasKinds : List Kind → Bounded → Type 0
HasKinds ks rows = AllByRecursion (λ r. kinds r.cells ≡ ks) rows

-- rows whose keys are of these kinds
abbrev pub HasKeyKinds : Keys → List Kind → Bounded → Type 0
HasKeyKinds k ks rows = AllByRecursion (λ r. kinds (keys_of k r.cells) ≡ ks) rows
