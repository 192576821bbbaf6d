-- Terms of a SELECT over its scope: their kinds, what is wrong with them, and the expressions that they are.
-- Without groups a term stands over the rows of the FROM items, and with groups over the keys and then the aggregates.
use Rattle.std.specs.Prelude.{ℕ, ◌+◌, ◌==◌, ◌&&◌, ◌||◌, not, Bool, true, false, List, [], ◌∷◌, ◌++◌, length, Option, Some, None, option_and_then, unwrap_or, is_some, is_none, position, pos}
use Rattle.std.specs.List.{list_all}
use Rattle.au_value.specs.declared.kinds.Kind.{Kind}
use Rattle.au_value.specs.declared.kinds.Kind.TheVariants.{Int, Dec, Text, Flag}
use Rattle.au_value.specs.declared.value.Value.TheVariants as value
use Rattle.au_expr.specs.Terms.{Term, Column, Literal, Add, Subtract, Multiply, Negate, Compare, And, Or, Not, Case}
use Rattle.au_expr.specs.Kinds.{is_kind, kind_if, only_if}
use Rattle.au_parse.specs.declared.AggWord.{AggWord}
use Rattle.au_parse.specs.declared.AggWord.TheVariants.{Count, Sum, Min, Max}
use Rattle.au_parse.specs.Tree.{TermTree, Operator}
use Rattle.au_typing.specs.Aggregates.{Written, written}
use Rattle.au_typing.specs.Scales.{common, number_if, product_kind, rescaled, sum_kind}
use Rattle.au_typing.specs.Scopes.{Scope, fault_if, place_of, field_kind, name_faults, then_faults}
use Rattle.au_typing.specs.declared.fault.TypingFault.{TypingFault}
use Rattle.au_typing.specs.declared.fault.TypingFault.TheVariants as fault

-- the kind that an operator gives, where its operands fit
abbrev pub operator_kind : Operator → Option Kind → Option Kind → Option Kind
operator_kind Operator.add j k = sum_kind j k
operator_kind Operator.subtract j k = sum_kind j k
operator_kind Operator.multiply j k = product_kind j k
operator_kind (Operator.compare how) j k = kind_if (is_some (common j k)) Flag
operator_kind Operator.and j k = kind_if (is_kind Flag j && is_kind Flag k) Flag
operator_kind Operator.or j k = kind_if (is_kind Flag j && is_kind Flag k) Flag

-- the kind that an aggregate gives
abbrev pub aggregate_kind : AggWord → Option Kind → Option Kind
aggregate_kind Count k = kind_if (is_some k) Int
aggregate_kind Sum k = number_if k
aggregate_kind Min k = k
aggregate_kind Max k = k

-- the kind of a WHEN part with its condition, its value and what follows
abbrev pub when_kind : Option Kind → Option Kind → Option Kind → Option Kind
when_kind i j k = only_if (is_kind Flag i) (common j k)

-- the kind of a term, where its names are known and its parts fit
abbrev pub term_kind : Scope → TermTree → Option Kind
term_kind scope (TermTree.column name) = field_kind scope name
term_kind scope (TermTree.number at n) = Some Int
term_kind scope (TermTree.decimal at n digits) = Some (Dec digits)
term_kind scope (TermTree.text at w) = Some Text
term_kind scope (TermTree.flag at b) = Some Flag
term_kind scope (TermTree.binary at operator left right) = operator_kind operator (term_kind scope left) (term_kind scope right)
term_kind scope (TermTree.negate at e) = number_if (term_kind scope e)
term_kind scope (TermTree.not at e) = kind_if (is_kind Flag (term_kind scope e)) Flag
term_kind scope (TermTree.case at parts) = term_kind scope parts
term_kind scope (TermTree.when condition value rest) = when_kind (term_kind scope condition) (term_kind scope value) (term_kind scope rest)
term_kind scope (TermTree.count_rows at) = Some Int
term_kind scope (TermTree.aggregate at word e) = aggregate_kind word (term_kind scope e)

-- The kinds of these parts are known and don't fit: the whole has none.
abbrev pub misfit : ℕ → List (Option Kind) → Option Kind → List TypingFault
misfit at parts whole = fault_if (list_all is_some parts && is_none whole) (fault.KindMismatch at)

-- the groups of a SELECT: the places of its keys, whether GROUP BY is written, and whether the SELECT joins
pub record Grouping : Type 0 where
  pub keys : List ℕ
  pub by : Bool
  pub joins : Bool

-- what a term stands over
pub data Setting : Type 0 where
  rows : Setting
  groups : Grouping → Setting

-- the column of the first aggregate
abbrev pub first_column : Setting → ℕ
first_column rows = 0
first_column (groups g) = length g.keys

-- the number of the key that is the column at this place
abbrev pub key_of : List ℕ → ℕ → Option ℕ
key_of keys place = position (λ key. key == place) keys

abbrev pub place_faults : Setting → ℕ → Option ℕ → List TypingFault
place_faults rows at place = []
place_faults (groups g) at None = []
place_faults (groups g) at (Some place) = fault_if (is_none (key_of g.keys place)) (fault.NotGrouped at)

-- whether a term names a column
abbrev pub names_column : TermTree → Bool
names_column (TermTree.column name) = true
names_column (TermTree.binary at operator left right) = names_column left || names_column right
names_column (TermTree.negate at e) = names_column e
names_column (TermTree.not at e) = names_column e
names_column (TermTree.case at parts) = names_column parts
names_column (TermTree.when condition value rest) = names_column condition || (names_column value || names_column rest)
names_column (TermTree.aggregate at word e) = names_column e
names_column _ = false

-- whether an aggregate counts rows, or sums what names no column
abbrev pub is_counting : AggWord → TermTree → Bool
is_counting Count e = true
is_counting Sum e = not (names_column e)
is_counting Min e = false
is_counting Max e = false

abbrev pub is_extreme : AggWord → Bool
is_extreme Count = false
is_extreme Sum = false
is_extreme Min = true
is_extreme Max = true

-- what is wrong with the place of an aggregate, given whether it is MIN or MAX and whether it counts
abbrev pub aggregate_faults : Setting → ℕ → Bool → Bool → List TypingFault
aggregate_faults rows at extreme counting = fault.MisplacedAggregate at ∷ []
aggregate_faults (groups g) at extreme counting = fault_if (extreme && not g.by) (fault.MinMaxNeedsGroup at) ++ fault_if (counting && g.joins) (fault.CountOverJoin at)

-- What is wrong with a term. The number is the place of the CASE around a WHEN part.
abbrev pub term_faults : Scope → Setting → ℕ → TermTree → List TypingFault
term_faults scope setting around (TermTree.column name) = then_faults (name_faults scope name) (place_faults setting name.at (place_of scope name))
term_faults scope setting around (TermTree.number at n) = []
term_faults scope setting around (TermTree.decimal at n digits) = []
term_faults scope setting around (TermTree.text at w) = []
term_faults scope setting around (TermTree.flag at b) = []
term_faults scope setting around (TermTree.binary at operator left right) =
    term_faults scope setting around left ++ term_faults scope setting around right
    ++ misfit at (term_kind scope left ∷ term_kind scope right ∷ []) (operator_kind operator (term_kind scope left) (term_kind scope right))
term_faults scope setting around (TermTree.negate at e) = term_faults scope setting around e ++ misfit at (term_kind scope e ∷ []) (number_if (term_kind scope e))
term_faults scope setting around (TermTree.not at e) = term_faults scope setting around e ++ misfit at (term_kind scope e ∷ []) (kind_if (is_kind Flag (term_kind scope e)) Flag)
term_faults scope setting around (TermTree.case at parts) = term_faults scope setting at parts
term_faults scope setting around (TermTree.when condition value rest) =
    term_faults scope setting around condition ++ term_faults scope setting around value ++ term_faults scope setting around rest
    ++ misfit around (term_kind scope condition ∷ term_kind scope value ∷ term_kind scope rest ∷ [])
    (when_kind (term_kind scope condition) (term_kind scope value) (term_kind scope rest))
term_faults scope setting around (TermTree.count_rows at) = aggregate_faults setting at false true
term_faults scope setting around (TermTree.aggregate at word e) =
    aggregate_faults setting at (is_extreme word) (is_counting word e) ++ term_faults scope rows at e ++ misfit at (term_kind scope e ∷ []) (aggregate_kind word (term_kind scope e))

-- what is wrong with a WHERE or HAVING at this place: its term, or that this is no flag
abbrev pub condition_faults : Scope → Setting → ℕ → TermTree → List TypingFault
condition_faults scope setting at e = term_faults scope setting at e ++ misfit at (term_kind scope e ∷ []) (kind_if (is_kind Flag (term_kind scope e)) Flag)

-- the expression of a column that a term stands over
abbrev pub column_term : Setting → Option ℕ → Term
column_term rows place = Column (unwrap_or place 0)
column_term (groups g) place = Column (unwrap_or (option_and_then (key_of g.keys) place) 0)

abbrev pub operation : Operator → Term → Term → Term
operation Operator.add a b = Add a b
operation Operator.subtract a b = Subtract a b
operation Operator.multiply a b = Multiply a b
operation (Operator.compare how) a b = Compare how a b
operation Operator.and a b = And a b
operation Operator.or a b = Or a b

-- The operands of a sum, a difference and a comparison are brought to one kind.
abbrev pub scaled_operand : Operator → Option Kind → Option Kind → Term → Term
scaled_operand Operator.add own to e = rescaled own to e
scaled_operand Operator.subtract own to e = rescaled own to e
scaled_operand Operator.multiply own to e = e
scaled_operand (Operator.compare how) own to e = rescaled own to e
scaled_operand Operator.and own to e = e
scaled_operand Operator.or own to e = e

abbrev pub operated : Operator → Option Kind → Option Kind → Term → Term → Term
operated operator j k a b = operation operator (scaled_operand operator j (common j k) a) (scaled_operand operator k (common j k) b)

-- the parts of a CASE as an expression, in which each branch is brought to a kind
abbrev pub branches : Scope → Option Kind → TermTree → Term → Term
branches scope to (TermTree.when condition value rest) (Case c a b) = Case c (rescaled (term_kind scope value) to a) (branches scope to rest b)
branches scope to tree e = rescaled (term_kind scope tree) to e

-- The expression of a term. The number is the column of the first aggregate that is written in it; the others follow.
abbrev pub resolved_expression : Scope → Setting → ℕ → TermTree → Term
resolved_expression scope setting n (TermTree.column name) = column_term setting (place_of scope name)
resolved_expression scope setting n (TermTree.number at m) = Literal (value.Int m)
resolved_expression scope setting n (TermTree.decimal at m digits) = Literal (value.Int m)
resolved_expression scope setting n (TermTree.text at w) = Literal (value.Text w)
resolved_expression scope setting n (TermTree.flag at b) = Literal (value.Flag b)
resolved_expression scope setting n (TermTree.binary at operator left right) =
    operated operator (term_kind scope left) (term_kind scope right) (resolved_expression scope setting n left) (resolved_expression scope setting (n + length (written left)) right)
resolved_expression scope setting n (TermTree.negate at e) = Negate (resolved_expression scope setting n e)
resolved_expression scope setting n (TermTree.not at e) = Not (resolved_expression scope setting n e)
resolved_expression scope setting n (TermTree.case at parts) = branches scope (term_kind scope parts) parts (resolved_expression scope setting n parts)
resolved_expression scope setting n (TermTree.when condition value rest) =
    Case (resolved_expression scope setting n condition) (resolved_expression scope setting (n + length (written condition)) value)
    (resolved_expression scope setting (n + length (written condition) + length (written value)) rest)
resolved_expression scope setting n (TermTree.count_rows at) = Column n
resolved_expression scope setting n (TermTree.aggregate at word e) = Column n

-- the argument of an aggregate, over the rows of the FROM items
abbrev pub argument_term : Scope → AggWord → Option TermTree → Term
argument_term scope word None = Literal (value.Int (pos 1))
argument_term scope Count (Some e) = Literal (value.Int (pos 1))
argument_term scope Sum (Some e) = resolved_expression scope rows 0 e
argument_term scope Min (Some e) = resolved_expression scope rows 0 e
argument_term scope Max (Some e) = resolved_expression scope rows 0 e

abbrev pub argument_of : Scope → Written → Term
argument_of scope w = argument_term scope w.word w.argument
