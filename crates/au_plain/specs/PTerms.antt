-- Plain expressions without where they lie in memory, and their value on a row:
-- that of an ordinary engine, in unbounded arithmetic.
use Rattle.std.specs.Prelude.{ℕ, Bool, List, pos}
use Rattle.au_value.specs.declared.value.Value.{Value}
use Rattle.au_value.specs.declared.value.Value.TheVariants.{Int, Flag}
use Rattle.au_value.specs.Order.{equal, below, at_most}
use Rattle.au_value.specs.Ranges.{lesser, greater}
use Rattle.au_expr.specs.Ordinary as on_values
use Rattle.au_algebra.specs.Lists.{value_at}
use Rattle.au_plain.specs.declared.expr.Comparison2.{Comparison2}
use Rattle.au_plain.specs.declared.expr.Comparison2.TheVariants.{Equal, Less, AtMost}
use Rattle.au_plain.specs.declared.expr.PExpr.{PExpr, Row_of-PExpr, end_of-PExpr, more_of-PExpr}
use Rattle.au_plain.specs.declared.expr.PExpr.TheVariants as code

-- an expression, and a list of expressions of its own, since a type cannot stand in a `List` of itself
mutual
  pub data PTerm : Type 0 where
    Column : ℕ → PTerm
    Literal : Value → PTerm
    Add : PTerm → PTerm → PTerm
    Subtract : PTerm → PTerm → PTerm
    Multiply : PTerm → PTerm → PTerm
    Negate : PTerm → PTerm
    Compare : Comparison2 → PTerm → PTerm → PTerm
    And : PTerm → PTerm → PTerm
    Or : PTerm → PTerm → PTerm
    Not : PTerm → PTerm
    Case : PTerm → PTerm → PTerm → PTerm
    Least : PTerms → PTerm
    Greatest : PTerms → PTerm

  pub data PTerms : Type 0 where
    nil : PTerms
    cons : PTerm → PTerms → PTerms

-- the least and the greatest of two
abbrev pub least_of_two : PTerm → PTerm → PTerm
least_of_two a b = Least (cons a (cons b nil))

abbrev pub greatest_of_two : PTerm → PTerm → PTerm
greatest_of_two a b = Greatest (cons a (cons b nil))

-- the term of an expression
abbrev mutual
  pub pterm : PExpr → PTerm
  pterm (code.Column i) = Column i
  pterm (code.Literal v) = Literal v
  pterm (code.Add' p a q b) = Add (pterm a) (pterm b)
  pterm (code.Subtract' p a q b) = Subtract (pterm a) (pterm b)
  pterm (code.Multiply' p a q b) = Multiply (pterm a) (pterm b)
  pterm (code.Negate' p a) = Negate (pterm a)
  pterm (code.Compare' how p a q b) = Compare how (pterm a) (pterm b)
  pterm (code.And' p a q b) = And (pterm a) (pterm b)
  pterm (code.Or' p a q b) = Or (pterm a) (pterm b)
  pterm (code.Not' p a) = Not (pterm a)
  pterm (code.Case' p c q a r b) = Case (pterm c) (pterm a) (pterm b)
  pterm (code.Least' shape all) = Least (pterms all)
  pterm (code.Greatest' shape all) = Greatest (pterms all)

  pub pterms : {m : _} → Row_of-PExpr m → PTerms
  pterms end_of-PExpr = nil
  pterms (more_of-PExpr e rest) = cons (pterm e) (pterms rest)

-- whether the comparison holds of the two values
abbrev pub plainly : Comparison2 → Value → Value → Bool
plainly Equal a b = equal a b
plainly Less a b = below a b
plainly AtMost a b = at_most a b

-- the value on a row
abbrev mutual
  pub plain_value : PTerm → List Value → Value
  plain_value (Column i) row = value_at row i
  plain_value (Literal v) row = v
  plain_value (Add a b) row = on_values.add (plain_value a row) (plain_value b row)
  plain_value (Subtract a b) row = on_values.subtract (plain_value a row) (plain_value b row)
  plain_value (Multiply a b) row = on_values.multiply (plain_value a row) (plain_value b row)
  plain_value (Negate a) row = on_values.negate (plain_value a row)
  plain_value (Compare how a b) row = Flag (plainly how (plain_value a row) (plain_value b row))
  plain_value (And a b) row = on_values.and (plain_value a row) (plain_value b row)
  plain_value (Or a b) row = on_values.or (plain_value a row) (plain_value b row)
  plain_value (Not a) row = on_values.opposite (plain_value a row)
  plain_value (Case c a b) row = on_values.choose (plain_value c row) (plain_value a row) (plain_value b row)
  plain_value (Least es) row = least_value es row
  plain_value (Greatest es) row = greatest_value es row

  -- the least value of several expressions, and 0 of none
  pub least_value : PTerms → List Value → Value
  least_value nil row = Int (pos 0)
  least_value (cons e nil) row = plain_value e row
  least_value (cons e (cons f es)) row = lesser (plain_value e row) (least_value (cons f es) row)

  pub greatest_value : PTerms → List Value → Value
  greatest_value nil row = Int (pos 0)
  greatest_value (cons e nil) row = plain_value e row
  greatest_value (cons e (cons f es)) row = greater (plain_value e row) (greatest_value (cons f es) row)
