-- The value of an expression on a row, over any domain of cells.
use Rattle.std.specs.Prelude.{◌≡◌, ℕ, Some, List, pos, unwrap_or, slice_get}
use Rattle.au_value.specs.declared.kinds.Kind.{Kind}
use Rattle.au_value.specs.declared.kinds.Kind.TheVariants as kind
use Rattle.au_value.specs.Order.{kind_of}
use Rattle.au_value.specs.declared.value.Value.{Value}
use Rattle.au_value.specs.declared.value.Value.TheVariants.{Int}
use Rattle.au_value.specs.declared.comparison.Comparison.{Comparison}
use Rattle.au_expr.specs.Terms.{Term}
use Rattle.au_expr.specs.Terms.{Column, Literal, Add, Subtract, Multiply, Negate, Compare, And, Or, Not, Case}

-- what the operators of expressions do in a domain
pub record Operators (Cell : Type 0) : Type 0 where
  pub literal : Value → Cell
  pub add : Cell → Cell → Cell
  pub subtract : Cell → Cell → Cell
  pub multiply : Cell → Cell → Cell
  pub negate : Cell → Cell
  pub compare : Comparison → Cell → Cell → Cell
  pub and : Cell → Cell → Cell
  pub or : Cell → Cell → Cell
  pub not : Cell → Cell
  pub choose : Cell → Cell → Cell → Cell

-- the cell of the column, and 0 past the last one
abbrev pub cell_at : {C : Type 0} → Operators C → List C → ℕ → C
cell_at d row i = unwrap_or (slice_get row i) (d.literal (Int (pos 0)))

-- the value of the expression: each operator on the values of its parts
abbrev pub evaluate : {C : Type 0} → Operators C → Term → List C → C
evaluate d (Column i) row = cell_at d row i
evaluate d (Literal v) row = d.literal v
evaluate d (Add a b) row = d.add (evaluate d a row) (evaluate d b row)
evaluate d (Subtract a b) row = d.subtract (evaluate d a row) (evaluate d b row)
evaluate d (Multiply a b) row = d.multiply (evaluate d a row) (evaluate d b row)
evaluate d (Negate a) row = d.negate (evaluate d a row)
evaluate d (Compare how a b) row = d.compare how (evaluate d a row) (evaluate d b row)
evaluate d (And a b) row = d.and (evaluate d a row) (evaluate d b row)
evaluate d (Or a b) row = d.or (evaluate d a row) (evaluate d b row)
evaluate d (Not a) row = d.not (evaluate d a row)
evaluate d (Case c a b) row = d.choose (evaluate d c row) (evaluate d a row) (evaluate d b row)

-- the expression has this kind on the row, where is_kind says which cells have a kind
abbrev pub HasKind : {C : Type 0} → (Kind → C → Type 0) → List C → Term → Kind → Type 0
HasKind {C} is_kind row (Column i) k = (c : C) × (slice_get row i ≡ Some c) × is_kind k c
HasKind is_kind row (Literal v) k = kind_of v ≡ k
HasKind is_kind row (Add a b) k = HasKind is_kind row a kind.Int × HasKind is_kind row b kind.Int × (k ≡ kind.Int)
HasKind is_kind row (Subtract a b) k = HasKind is_kind row a kind.Int × HasKind is_kind row b kind.Int × (k ≡ kind.Int)
HasKind is_kind row (Multiply a b) k = HasKind is_kind row a kind.Int × HasKind is_kind row b kind.Int × (k ≡ kind.Int)
HasKind is_kind row (Negate a) k = HasKind is_kind row a kind.Int × (k ≡ kind.Int)
HasKind is_kind row (Compare how a b) k = ((j : Kind) × HasKind is_kind row a j × HasKind is_kind row b j) × (k ≡ kind.Flag)
HasKind is_kind row (And a b) k = HasKind is_kind row a kind.Flag × HasKind is_kind row b kind.Flag × (k ≡ kind.Flag)
HasKind is_kind row (Or a b) k = HasKind is_kind row a kind.Flag × HasKind is_kind row b kind.Flag × (k ≡ kind.Flag)
HasKind is_kind row (Not a) k = HasKind is_kind row a kind.Flag × (k ≡ kind.Flag)
HasKind is_kind row (Case c a b) k = HasKind is_kind row c kind.Flag × HasKind is_kind row a k × HasKind is_kind row b k
