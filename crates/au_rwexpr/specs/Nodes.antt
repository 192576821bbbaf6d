-- The terms of the three columns that a node adds,
-- and how many nodes an expression has.
use Rattle.std.specs.Prelude.{◌≡◌, ℕ, ◌+◌, ◌++◌, List, length, map}
use Rattle.au_expr.specs.Terms.{Term, Column, Literal, Add, Subtract, Multiply, Negate, Compare, And, Or, Not, Case}
use Rattle.au_plain.specs.declared.expr.PExpr.{PExpr}
use Rattle.au_plain.specs.PTerms.{PTerm, pterm}
use Rattle.au_rwexpr.specs.declared.nodes.Node.{Node}
use Rattle.au_rwexpr.specs.Flatten.{three, before, flatten, column_step, add_step, subtract_step, multiply_step, negate_step, compare_step, and_step, or_step, not_step}

abbrev pub terms_of : Node → List PTerm
terms_of n = three (pterm n.lo) (pterm n.sg) (pterm n.hi)

abbrev pub nodes : Term → ℕ
nodes (Column i) = 1
nodes (Literal v) = 1
nodes (Add a b) = 1 + (nodes a + nodes b)
nodes (Subtract a b) = 1 + (nodes a + nodes b)
nodes (Multiply a b) = 1 + (nodes a + nodes b)
nodes (Negate a) = 1 + nodes a
nodes (Compare how a b) = 1 + (nodes a + nodes b)
nodes (And a b) = 1 + (nodes a + nodes b)
nodes (Or a b) = 1 + (nodes a + nodes b)
nodes (Not a) = 1 + nodes a
nodes (Case c a b) = 1 + (nodes c + (nodes a + nodes b))

-- columns to which those of an expression were added, with the place of its own three in a row of a width
pub record AddsColumns (width : ℕ) (e : Term) (old new : List PExpr) (at : ℕ) : Type 0 where
  pub columns : map pterm new ≡ map pterm old ++ flatten (width + length old) e
  pub place : at ≡ width + length old + before e

-- the columns of an operator, from the places of its two parts, or of its one part twice; of anything else a copy of them
abbrev pub operator_step : Term → ℕ → ℕ → List PTerm
operator_step (Add a b) i j = add_step i j
operator_step (Subtract a b) i j = subtract_step i j
operator_step (Multiply a b) i j = multiply_step i j
operator_step (Negate a) i j = negate_step i
operator_step (Compare how a b) i j = compare_step how i j
operator_step (And a b) i j = and_step i j
operator_step (Or a b) i j = or_step i j
operator_step (Not a) i j = not_step i
operator_step (Column k) i j = column_step i
operator_step (Literal v) i j = column_step i
operator_step (Case c a b) i j = column_step i
