-- One step of an evaluation: what an operator gives on the cells of its parts, which a part alone has when it is evaluated.
-- An operator of one part is read as one of that part twice.
use Rattle.std.specs.Prelude.{◌≡◌, List, [], ◌++◌, ℤ, Some}
use Rattle.au_value.specs.declared.kinds.Kind.{Kind}
use Rattle.au_value.specs.declared.kinds.Kind.TheVariants as kind
use Rattle.au_value.specs.declared.value.Value.{Value}
use Rattle.au_expr.specs.Evaluate.{Operators, evaluate, HasKind}
use Rattle.au_expr.specs.Figures.{Figures, Fit, numbers_of}
use Rattle.au_expr.specs.Holding.{WhichWorld}
use Rattle.au_expr.specs.Kinds.{kind_in}
use Rattle.au_expr.specs.Ordinary.{ordinary, value_of}
use Rattle.au_expr.specs.Related.{RelatedRows}
use Rattle.au_expr.specs.Terms.{Term}
use Rattle.au_expr.specs.Terms.{Column, Literal, Add, Subtract, Multiply, Negate, Compare, And, Or, Not, Case}

-- the operator of a term on two cells
abbrev pub combined : {C : Type 0} → Operators C → Term → C → C → C
combined d (Add a b) x y = d.add x y
combined d (Subtract a b) x y = d.subtract x y
combined d (Multiply a b) x y = d.multiply x y
combined d (Negate a) x y = d.negate x
combined d (Compare how a b) x y = d.compare how x y
combined d (And a b) x y = d.and x y
combined d (Or a b) x y = d.or x y
combined d (Not a) x y = d.not x
combined d (Column i) x y = x
combined d (Literal v) x y = x
combined d (Case c a b) x y = x

-- the kind that it gives
abbrev pub kind_given : Term → Kind
kind_given (Add a b) = kind.Int
kind_given (Subtract a b) = kind.Int
kind_given (Multiply a b) = kind.Int
kind_given (Negate a) = kind.Int
kind_given (Compare how a b) = kind.Flag
kind_given (And a b) = kind.Flag
kind_given (Or a b) = kind.Flag
kind_given (Not a) = kind.Flag
kind_given (Column i) = kind.Flag
kind_given (Literal v) = kind.Flag
kind_given (Case c a b) = kind.Flag

-- two facts by kind, at kinds that fit the operator
abbrev pub Both : (Kind → Type 0) → (Kind → Type 0) → Term → Type 0
Both P Q (Add a b) = P kind.Int × Q kind.Int
Both P Q (Subtract a b) = P kind.Int × Q kind.Int
Both P Q (Multiply a b) = P kind.Int × Q kind.Int
Both P Q (Negate a) = P kind.Int × Q kind.Int
Both P Q (Compare how a b) = (k : Kind) × P k × Q k
Both P Q (And a b) = P kind.Flag × Q kind.Flag
Both P Q (Or a b) = P kind.Flag × Q kind.Flag
Both P Q (Not a) = P kind.Flag × Q kind.Flag
Both P Q (Column i) = ⊥
Both P Q (Literal v) = ⊥
Both P Q (Case c a b) = ⊥

-- the numbers that it forms
abbrev pub formed : {C : Type 0} → Operators C → Figures C → Term → C → C → List ℤ
formed d n (Add a b) x y = n.components (d.add x y)
formed d n (Subtract a b) x y = n.components (d.subtract x y)
formed d n (Multiply a b) x y = n.products x y ++ n.components (d.multiply x y)
formed d n (Negate a) x y = n.components (d.negate x)
formed d n (Compare how a b) x y = []
formed d n (And a b) x y = []
formed d n (Or a b) x y = []
formed d n (Not a) x y = []
formed d n (Column i) x y = []
formed d n (Literal v) x y = []
formed d n (Case c a b) x y = []

-- the numbers of the cells that it was given fit
abbrev pub Held : {C : Type 0} → Figures C → Term → C → C → Type 0
Held n (Negate a) x y = Fit (n.components x)
Held n (Not a) x y = Fit (n.components x)
Held n (Add a b) x y = Fit (n.components x) × Fit (n.components y)
Held n (Subtract a b) x y = Fit (n.components x) × Fit (n.components y)
Held n (Multiply a b) x y = Fit (n.components x) × Fit (n.components y)
Held n (Compare how a b) x y = Fit (n.components x) × Fit (n.components y)
Held n (And a b) x y = Fit (n.components x) × Fit (n.components y)
Held n (Or a b) x y = Fit (n.components x) × Fit (n.components y)
Held n (Column i) x y = Unit {0}
Held n (Literal v) x y = Unit {0}
Held n (Case c a b) x y = Unit {0}

-- a cell that an operator gave on two cells
pub record Combined {C : Type 0} (d : Operators C) (is_kind : Kind → C → Type 0) (n : Figures C) (stands_for : WhichWorld → Kind → C → Value → Type 0) (e : Term) (x y c : C) : Type 0 where
  pub value : c ≡ combined d e x y
  pub kind : is_kind (kind_given e) c
  pub held : Held n e x y
  pub fits : Fit (formed d n e x y)
  pub keeps :
      (w : WhichWorld) (u v : Value) →
      Both (λ k. stands_for w k x u) (λ k. stands_for w k y v) e →
      stands_for w (kind_given e) (combined d e x y) (combined ordinary e u v)

-- a cell that an evaluation found; where its own numbers fit, all fit that were formed below it
pub record Found {C : Type 0} (d : Operators C) (is_kind : Kind → C → Type 0) (n : Figures C) (stands_for : WhichWorld → Kind → C → Value → Type 0) (row : List C) (e : Term) (c : C) : Type 0 where
  pub value : c ≡ evaluate d e row
  pub kind : (k : Kind) → HasKind is_kind row e k → is_kind k c
  pub fits : Fit (n.components c) → Fit (numbers_of d n e row)
  pub keeps :
      (w : WhichWorld) (ks : List Kind) (vs : List Value) (k : Kind) →
      RelatedRows (stands_for w) ks row vs → kind_in ks e ≡ Some k → stands_for w k c (value_of e vs)
