-- The ordinary value of an expression.
use Rattle.std.specs.Prelude.{◌≡◌, Bool, false, not, ◌&&◌, ◌||◌, List, ℤ, pos, ◌+ℤ◌, ◌-ℤ◌, ◌*ℤ◌, neg_ℤ, if◌then◌else◌}
use Rattle.au_value.specs.declared.value.Value.{Value}
use Rattle.au_value.specs.declared.value.Value.TheVariants.{Int, Text, Flag}
use Rattle.au_value.specs.declared.comparison.Comparison.{Comparison}
use Rattle.au_value.specs.declared.comparison.Comparison.TheVariants.{Equal, Differs, Less, AtMost, Greater, AtLeast}
use Rattle.au_value.specs.Order.{at_most, below, equal, kind_of}
use Rattle.au_value.specs.declared.kinds.Kind.{Kind}
use Rattle.au_expr.specs.Terms.{Term}
use Rattle.au_expr.specs.Evaluate.{Operators, evaluate}

-- the number of a value, and 0 where it is none
abbrev pub number : Value → ℤ
number (Int n) = n
number (Text bytes) = pos 0
number (Flag b) = pos 0

-- whether a value is the true flag
abbrev pub is_true : Value → Bool
is_true (Int n) = false
is_true (Text bytes) = false
is_true (Flag b) = b

abbrev pub add : Value → Value → Value
add a b = Int (number a +ℤ number b)

abbrev pub subtract : Value → Value → Value
subtract a b = Int (number a -ℤ number b)

abbrev pub multiply : Value → Value → Value
multiply a b = Int (number a *ℤ number b)

abbrev pub negate : Value → Value
negate a = Int (neg_ℤ (number a))

-- whether the comparison holds of the two values
abbrev pub compares : Comparison → Value → Value → Bool
compares Equal a b = equal a b
compares Differs a b = not (equal a b)
compares Less a b = below a b
compares AtMost a b = at_most a b
compares Greater a b = below b a
compares AtLeast a b = at_most b a

abbrev pub compare : Comparison → Value → Value → Value
compare how a b = Flag (compares how a b)

abbrev pub and : Value → Value → Value
and a b = Flag (is_true a && is_true b)

abbrev pub or : Value → Value → Value
or a b = Flag (is_true a || is_true b)

abbrev pub opposite : Value → Value
opposite a = Flag (not (is_true a))

-- the branch that the condition selects
abbrev pub choose : Value → Value → Value → Value
choose c a b = if is_true c then a else b

-- the usual meaning of the operators
abbrev pub ordinary : Operators Value
ordinary = record {
  literal = λ v. v;
  add = add;
  subtract = subtract;
  multiply = multiply;
  negate = negate;
  compare = compare;
  and = and;
  or = or;
  not = opposite;
  choose = choose;
}

-- the ordinary value of an expression on a row
abbrev pub value_of : Term → List Value → Value
value_of e row = evaluate ordinary e row

-- a value of a kind
abbrev pub IsKind : Kind → Value → Type 0
IsKind k v = kind_of v ≡ k
