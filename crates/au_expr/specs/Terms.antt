-- Expressions without where they lie in memory.
use Rattle.std.specs.Prelude.{ℕ}
use Rattle.au_value.specs.declared.value.Value.{Value}
use Rattle.au_value.specs.declared.comparison.Comparison.{Comparison}
use Rattle.au_expr.specs.declared.expr.Expr.{Expr}
use Rattle.au_expr.specs.declared.expr.Expr.TheVariants as code

pub data Term : Type 0 where
  Column : ℕ → Term
  Literal : Value → Term
  Add : Term → Term → Term
  Subtract : Term → Term → Term
  Multiply : Term → Term → Term
  Negate : Term → Term
  Compare : Comparison → Term → Term → Term
  And : Term → Term → Term
  Or : Term → Term → Term
  Not : Term → Term
  Case : Term → Term → Term → Term

-- the term of an expression
abbrev pub term : Expr → Term
term (code.Column i) = Column i
term (code.Literal v) = Literal v
term (code.Add' p a q b) = Add (term a) (term b)
term (code.Subtract' p a q b) = Subtract (term a) (term b)
term (code.Multiply' p a q b) = Multiply (term a) (term b)
term (code.Negate' p a) = Negate (term a)
term (code.Compare' how p a q b) = Compare how (term a) (term b)
term (code.And' p a q b) = And (term a) (term b)
term (code.Or' p a q b) = Or (term a) (term b)
term (code.Not' p a) = Not (term a)
term (code.Case' p c q a r b) = Case (term c) (term a) (term b)
