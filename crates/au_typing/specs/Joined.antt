-- Results of calls, joined.
use Rattle.std.specs.Prelude.{ℕ, ◌≡◌, Option, Some, Result, Ok, Err}
use Rattle.au_value.specs.declared.kinds.Kind.{Kind}
use Rattle.au_expr.specs.declared.expr.Expr.{Expr}
use Rattle.au_expr.specs.Terms.{term, Case}
use Rattle.au_parse.specs.Tree.{Operator}
use Rattle.au_typing.specs.Results.{Answer, IsOfKind, OfOne}
use Rattle.au_typing.specs.Scales.{rescaled}
use Rattle.au_typing.specs.Terms.{operated, operator_kind, when_kind}
use Rattle.au_typing.specs.declared.fault.TypingFault.{TypingFault}

-- An answer is made of a pair, or of a pair beside a third, and a fault is handed on.
abbrev pub OfPair : {A B R : Type 0} → (A → B → Result R TypingFault → Type 0) → Result (A × B) TypingFault → Result R TypingFault → Type 0
OfPair Made parts r = OfOne (λ p. Made p.0 p.1) parts r

abbrev pub OfTriple : {A B C R : Type 0} → (A → B → C → Result R TypingFault → Type 0) → Result ((A × B) × C) TypingFault → Result R TypingFault → Type 0
OfTriple Made parts r = OfOne (λ p. Made p.0.0 p.0.1 p.1) parts r

-- Two operands are made that of their operator, and three parts that of a WHEN part.
abbrev pub JoinsOperands : Operator → ℕ → Expr × Kind → Expr × Kind → Answer → Type 0
JoinsOperands o at x y answer = IsOfKind at (operator_kind o (Some x.1) (Some y.1)) (λ e. operated o (Some x.1) (Some y.1) (term x.0) (term y.0) ≡ e) answer

abbrev pub ChoosesParts : ℕ → Option Kind → Expr × Kind → Expr × Kind → Expr × Kind → Answer → Type 0
ChoosesParts at to x y z answer = IsOfKind at (when_kind (Some x.1) (Some y.1) (Some z.1)) (λ e. Case (term x.0) (rescaled (Some y.1) to (term y.0)) (term z.0) ≡ e) answer
