-- The numbers that the value of an expression over a domain is made from, and whether each fits 128 bits.
-- A call or an evaluation is refused exactly where one of them does not.
use Rattle.std.specs.Prelude.{Bool, IsTrue, List, ◌++◌, ℤ}
use Rattle.std.specs.List.{list_all}
use Rattle.au_value.specs.Numeral.{is_i128}
use Rattle.au_expr.specs.Terms.{Term}
use Rattle.au_expr.specs.Terms.{Column, Literal, Add, Subtract, Multiply, Negate, Compare, And, Or, Not, Case}
use Rattle.au_expr.specs.Evaluate.{Operators, evaluate}

-- the numbers of a cell, and those that a product is chosen from
pub record Figures (Cell : Type 0) : Type 0 where
  pub components : Cell → List ℤ
  pub products : Cell → Cell → List ℤ

-- each number lies between -2^127 and 2^127 - 1
abbrev pub fit : List ℤ → Bool
fit numbers = list_all is_i128 numbers

abbrev pub Fit : List ℤ → Type 0
Fit numbers = IsTrue (fit numbers)

-- the components of each subexpression, and the products of each multiplication
abbrev pub numbers_of : {C : Type 0} → Operators C → Figures C → Term → List C → List ℤ
numbers_of d n (Column i) row = n.components (evaluate d (Column i) row)
numbers_of d n (Literal v) row = n.components (evaluate d (Literal v) row)
numbers_of d n (Add a b) row = n.components (evaluate d (Add a b) row) ++ (numbers_of d n a row ++ numbers_of d n b row)
numbers_of d n (Subtract a b) row = n.components (evaluate d (Subtract a b) row) ++ (numbers_of d n a row ++ numbers_of d n b row)
numbers_of d n (Multiply a b) row =
    n.products (evaluate d a row) (evaluate d b row)
    ++ (n.components (evaluate d (Multiply a b) row) ++ (numbers_of d n a row ++ numbers_of d n b row))
numbers_of d n (Negate a) row = n.components (evaluate d (Negate a) row) ++ numbers_of d n a row
numbers_of d n (Compare how a b) row = numbers_of d n a row ++ numbers_of d n b row
numbers_of d n (And a b) row = numbers_of d n a row ++ numbers_of d n b row
numbers_of d n (Or a b) row = numbers_of d n a row ++ numbers_of d n b row
numbers_of d n (Not a) row = numbers_of d n a row
numbers_of d n (Case c a b) row =
    n.components (evaluate d (Case c a b) row) ++ (numbers_of d n c row ++ (numbers_of d n a row ++ numbers_of d n b row))
