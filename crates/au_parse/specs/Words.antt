-- What a single lexeme is to the grammar.
use Rattle.std.specs.Prelude.{ℕ, ◌+◌, ◌-◌, Bool, true, false, List, ◌∷◌, [], Option, Some, None, codes, if◌then◌else◌}
use Rattle.au_value.specs.declared.comparison.Comparison.TheVariants as comparison
use Rattle.au_lex.specs.declared.Keyword.TheVariants as key
use Rattle.au_lex.specs.declared.Symbol.TheVariants as sym
use Rattle.au_lex.specs.declared.Lexeme.{Lexeme}
use Rattle.au_lex.specs.declared.Lexeme.TheVariants as lex
use Rattle.au_lex.specs.Lexemes.{entry_of}
use Rattle.au_parse.specs.declared.AggWord.{AggWord}
use Rattle.au_parse.specs.declared.AggWord.TheVariants as agg
use Rattle.au_parse.specs.Tree.{Operator, SetWord}

-- the operator of each level
abbrev pub or_operator : Lexeme → Option Operator
or_operator (lex.Key key.Or) = Some Operator.or
or_operator _ = None

abbrev pub and_operator : Lexeme → Option Operator
and_operator (lex.Key key.And) = Some Operator.and
and_operator _ = None

abbrev pub comparison_operator : Lexeme → Option Operator
comparison_operator (lex.Symbol sym.Equal) = Some (Operator.compare comparison.Equal)
comparison_operator (lex.Symbol sym.Differs) = Some (Operator.compare comparison.Differs)
comparison_operator (lex.Symbol sym.Less) = Some (Operator.compare comparison.Less)
comparison_operator (lex.Symbol sym.AtMost) = Some (Operator.compare comparison.AtMost)
comparison_operator (lex.Symbol sym.Greater) = Some (Operator.compare comparison.Greater)
comparison_operator (lex.Symbol sym.AtLeast) = Some (Operator.compare comparison.AtLeast)
comparison_operator _ = None

abbrev pub sum_operator : Lexeme → Option Operator
sum_operator (lex.Symbol sym.Plus) = Some Operator.add
sum_operator (lex.Symbol sym.Minus) = Some Operator.subtract
sum_operator _ = None

abbrev pub product_operator : Lexeme → Option Operator
product_operator (lex.Symbol sym.Star) = Some Operator.multiply
product_operator _ = None

abbrev pub set_word : Lexeme → Option SetWord
set_word (lex.Key key.Union) = Some SetWord.union
set_word (lex.Key key.Except) = Some SetWord.except
set_word _ = None

-- the words that cut a SELECT, and those that cut a CASE
pub data Clause : Type 0 where
  from : Clause
  condition : Clause
  group : Clause
  having : Clause

abbrev pub clause_word : Lexeme → Option Clause
clause_word (lex.Key key.From) = Some Clause.from
clause_word (lex.Key key.Where) = Some Clause.condition
clause_word (lex.Key key.Group) = Some Clause.group
clause_word (lex.Key key.Having) = Some Clause.having
clause_word _ = None

pub data CasePart : Type 0 where
  when_part : CasePart
  then_part : CasePart
  else_part : CasePart

abbrev pub case_word : Lexeme → Option CasePart
case_word (lex.Key key.When) = Some CasePart.when_part
case_word (lex.Key key.Then) = Some CasePart.then_part
case_word (lex.Key key.Else) = Some CasePart.else_part
case_word _ = None

abbrev pub comma : Lexeme → Option (Unit {0})
comma (lex.Symbol sym.Comma) = Some tt
comma _ = None

-- brackets, of which CASE and END are a pair
abbrev pub is_open : Lexeme → Bool
is_open (lex.Symbol sym.Open) = true
is_open (lex.Key key.Case) = true
is_open _ = false

abbrev pub is_close : Lexeme → Bool
is_close (lex.Symbol sym.Close) = true
is_close (lex.Key key.End) = true
is_close _ = false

-- how many brackets are open after a lexeme, where so many are before it
abbrev pub depth_after : ℕ → Lexeme → ℕ
depth_after depth what = if is_open what then depth + 1 else if is_close what then depth - 1 else depth

-- whether a lexeme ends an operand: a `-` after it is binary, and a name after it is an alias
abbrev pub ends_operand : Lexeme → Bool
ends_operand (lex.Name w) = true
ends_operand (lex.Quoted w) = true
ends_operand (lex.Text w) = true
ends_operand (lex.Number n) = true
ends_operand (lex.Decimal n digits) = true
ends_operand (lex.Key key.True) = true
ends_operand (lex.Key key.False) = true
ends_operand (lex.Key key.End) = true
ends_operand (lex.Symbol sym.Close) = true
ends_operand _ = false

-- the word of a name
abbrev pub name_word : Lexeme → Option (List ℕ)
name_word (lex.Name w) = Some w
name_word (lex.Quoted w) = Some w
name_word _ = None

-- the aggregate that a Name is before a bracket
abbrev pub aggregates : List (List ℕ × AggWord)
aggregates = (codes "COUNT", agg.Count) ∷ (codes "SUM", agg.Sum) ∷ (codes "MIN", agg.Min) ∷ (codes "MAX", agg.Max) ∷ []

abbrev pub aggregate_word : Lexeme → Option AggWord
aggregate_word (lex.Name w) = entry_of aggregates w
aggregate_word _ = None

-- single tests
abbrev pub is_group_open : Lexeme → Bool
is_group_open (lex.Symbol sym.Open) = true
is_group_open _ = false

abbrev pub is_group_close : Lexeme → Bool
is_group_close (lex.Symbol sym.Close) = true
is_group_close _ = false

abbrev pub is_case : Lexeme → Bool
is_case (lex.Key key.Case) = true
is_case _ = false

abbrev pub is_not : Lexeme → Bool
is_not (lex.Key key.Not) = true
is_not _ = false

abbrev pub is_minus : Lexeme → Bool
is_minus (lex.Symbol sym.Minus) = true
is_minus _ = false

abbrev pub is_star : Lexeme → Bool
is_star (lex.Symbol sym.Star) = true
is_star _ = false

abbrev pub is_dot : Lexeme → Bool
is_dot (lex.Symbol sym.Dot) = true
is_dot _ = false

abbrev pub is_comma : Lexeme → Bool
is_comma (lex.Symbol sym.Comma) = true
is_comma _ = false

abbrev pub is_semicolon : Lexeme → Bool
is_semicolon (lex.Symbol sym.Semicolon) = true
is_semicolon _ = false

abbrev pub is_as : Lexeme → Bool
is_as (lex.Key key.As) = true
is_as _ = false

abbrev pub is_select : Lexeme → Bool
is_select (lex.Key key.Select) = true
is_select _ = false

abbrev pub is_by : Lexeme → Bool
is_by (lex.Key key.By) = true
is_by _ = false

abbrev pub is_all : Lexeme → Bool
is_all (lex.Key key.All) = true
is_all _ = false

abbrev pub is_distinct : Lexeme → Bool
is_distinct (lex.Key key.Distinct) = true
is_distinct _ = false

abbrev pub is_end : Lexeme → Bool
is_end (lex.Key key.End) = true
is_end _ = false
