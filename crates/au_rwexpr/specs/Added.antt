-- The numbers that a plan adds to those of the plans that it is made from.
use Rattle.std.specs.Prelude.{◌≡◌, ◌⊎◌, List, IsTrue, ℤ}
use Rattle.std.specs.List.{AllByRecursion, Contains}
use Rattle.au_value.specs.Numeral.{is_i128}
use Rattle.au_value.specs.declared.kinds.Kind.{Kind}
use Rattle.au_algebra.specs.Bounded.{Bounded}
use Rattle.au_algebra.specs.Laws.{IsRelation}
use Rattle.au_algebra.specs.Ordinary.{Rows}
use Rattle.au_plain.specs.Meaning.{plain_rows}
use Rattle.au_plain.specs.PlanKinds.{FitRows}
use Rattle.au_plain.specs.Plans.{PlanTree}
use Rattle.au_encode.specs.Encode.{encode}

-- each number lies in the range, or is one of those that were there before
abbrev pub AddsInRange : List ℤ → List ℤ → Type 0
AddsInRange before numbers = AllByRecursion (λ n. IsTrue (is_i128 n) ⊎ Contains before n) numbers

-- over these tables the plan gives the encoded rows of a relation whose columns have these kinds
pub record Encodes (tables : List Rows) (p : PlanTree) (ks : List Kind) (rows : Bounded) : Type 0 where
  pub relation : IsRelation ks rows
  pub encoded : plain_rows p tables ≡ encode rows

-- the same, and each number of these rows lies in the range
pub record EncodesHeld (tables : List Rows) (p : PlanTree) (ks : List Kind) (rows : Bounded) : Type 0 where
  pub encodes : Encodes tables p ks rows
  pub held : FitRows (encode rows)
