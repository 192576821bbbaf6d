-- Tests: expressions without arithmetic, as conjuncts of a condition.
-- Which columns they read, and what they are over other rows.
use Rattle.std.specs.Prelude.{ℕ, ◌+◌, ◌-◌, Bool, true, false, not, ◌&&◌, List, [], ◌∷◌, filter, Option, Some, None, nat_eq, slice_get, pos, if◌then◌else◌}
use Rattle.std.specs.List.{list_all}
use Rattle.au_value.specs.declared.value.Value.{Value}
use Rattle.au_value.specs.declared.value.Value.TheVariants.{Int}
use Rattle.au_expr.specs.Figures.{fit}
use Rattle.au_expr.specs.Numbers.{number_if_any}
use Rattle.au_plain.specs.PTerms.{PTerm, Column, Literal, Add, Subtract, Multiply, Negate, Compare, And, Or, Not, Case, Least, Greatest}
use Rattle.au_plain.specs.Meaning.{passes}
use Rattle.au_passes.specs.Conditions.{conjuncts}

-- whether an expression is without arithmetic: its numbers are those of columns, and of literals that lie in the range
abbrev pub without_arithmetic : PTerm → Bool
without_arithmetic (Column i) = true
without_arithmetic (Literal v) = fit (number_if_any v)
without_arithmetic (Compare how a b) = without_arithmetic a && without_arithmetic b
without_arithmetic (And a b) = without_arithmetic a && without_arithmetic b
without_arithmetic (Or a b) = without_arithmetic a && without_arithmetic b
without_arithmetic (Not a) = without_arithmetic a
without_arithmetic (Add a b) = false
without_arithmetic (Subtract a b) = false
without_arithmetic (Multiply a b) = false
without_arithmetic (Negate a) = false
without_arithmetic (Case c a b) = false
without_arithmetic (Least es) = false
without_arithmetic (Greatest es) = false

-- whether an expression is without arithmetic, but for its literals, and reads such columns alone
abbrev pub reads_only : (ℕ → Bool) → PTerm → Bool
reads_only test (Column i) = test i
reads_only test (Literal v) = true
reads_only test (Compare how a b) = reads_only test a && reads_only test b
reads_only test (And a b) = reads_only test a && reads_only test b
reads_only test (Or a b) = reads_only test a && reads_only test b
reads_only test (Not a) = reads_only test a
reads_only test (Add a b) = false
reads_only test (Subtract a b) = false
reads_only test (Multiply a b) = false
reads_only test (Negate a) = false
reads_only test (Case c a b) = false
reads_only test (Least es) = false
reads_only test (Greatest es) = false

-- an expression without arithmetic, with other expressions in the place of its columns
abbrev pub with_columns : (ℕ → PTerm) → PTerm → PTerm
with_columns column (Column i) = column i
with_columns column (Literal v) = Literal v
with_columns column (Compare how a b) = Compare how (with_columns column a) (with_columns column b)
with_columns column (And a b) = And (with_columns column a) (with_columns column b)
with_columns column (Or a b) = Or (with_columns column a) (with_columns column b)
with_columns column (Not a) = Not (with_columns column a)
with_columns column (Add a b) = Add a b
with_columns column (Subtract a b) = Subtract a b
with_columns column (Multiply a b) = Multiply a b
with_columns column (Negate a) = Negate a
with_columns column (Case c a b) = Case c a b
with_columns column (Least es) = Least es
with_columns column (Greatest es) = Greatest es

-- the column of a place, but for the place `n` the expression that defines it
abbrev pub defined : ℕ → PTerm → ℕ → PTerm
defined n c i = if nat_eq i n then c else Column i

-- the column of a place, if there is one, and else 0
abbrev pub column_or_zero : Option ℕ → PTerm
column_or_zero None = Literal (Int (pos 0))
column_or_zero (Some i) = Column i

-- the column of a place in a row of the columns of these places
abbrev pub renamed : List ℕ → ℕ → PTerm
renamed places i = column_or_zero (slice_get places i)

-- the column of a place that is counted from `n` on
abbrev pub counted_from : ℕ → ℕ → PTerm
counted_from n i = Column (i - n)

-- the conjuncts of a condition without arithmetic, and the others
abbrev pub movable : PTerm → List PTerm
movable e = filter without_arithmetic (conjuncts e)

abbrev pub staying : PTerm → List PTerm
staying e = filter (λ c. not (without_arithmetic c)) (conjuncts e)

-- how many nodes an expression without arithmetic has
abbrev pub weight : PTerm → ℕ
weight (Compare how a b) = 1 + (weight a + weight b)
weight (And a b) = 1 + (weight a + weight b)
weight (Or a b) = 1 + (weight a + weight b)
weight (Not a) = 1 + weight a
weight e = 1

abbrev pub total_weight : List PTerm → ℕ
total_weight [] = 0
total_weight (e ∷ es) = weight e + total_weight es

-- whether a row passes each of some tests
abbrev pub tests_hold : List PTerm → List Value → Bool
tests_hold es row = list_all (λ e. passes e row) es
