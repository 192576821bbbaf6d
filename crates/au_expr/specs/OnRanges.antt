-- The range of an expression.
use Rattle.std.specs.Prelude.{Bool, not, List, if◌then◌else◌}
use Rattle.au_value.specs.declared.value.Value.{Value}
use Rattle.au_value.specs.declared.value.Value.TheVariants.{Flag}
use Rattle.au_value.specs.declared.comparison.Comparison.{Comparison}
use Rattle.au_value.specs.declared.comparison.Comparison.TheVariants.{Equal, Differs, Less, AtMost, Greater, AtLeast}
use Rattle.au_value.specs.Order.{at_most, below, equal}
use Rattle.au_value.specs.Ranges.{Span, range, lesser, greater, certain, certainly_equal, overlap}
use Rattle.au_expr.specs.Terms.{Term}
use Rattle.au_expr.specs.Evaluate.{Operators, evaluate}
use Rattle.au_expr.specs.Ordinary as on_values

abbrev pub add : Span → Span → Span
add a b = range (on_values.add a.lo b.lo) (on_values.add a.sg b.sg) (on_values.add a.hi b.hi)

abbrev pub subtract : Span → Span → Span
subtract a b = range (on_values.subtract a.lo b.hi) (on_values.subtract a.sg b.sg) (on_values.subtract a.hi b.lo)

abbrev pub negate : Span → Span
negate a = range (on_values.negate a.hi) (on_values.negate a.sg) (on_values.negate a.lo)

abbrev pub least_of_four : Value → Value → Value → Value → Value
least_of_four a b c d = lesser (lesser a b) (lesser c d)

abbrev pub greatest_of_four : Value → Value → Value → Value → Value
greatest_of_four a b c d = greater (greater a b) (greater c d)

-- the least and the greatest of the four products of ends
abbrev pub multiply : Span → Span → Span
multiply a b =
    let ll = on_values.multiply a.lo b.lo in
    let lh = on_values.multiply a.lo b.hi in
    let hl = on_values.multiply a.hi b.lo in
    let hh = on_values.multiply a.hi b.hi in
    range (least_of_four ll lh hl hh) (on_values.multiply a.sg b.sg) (greatest_of_four ll lh hl hh)

-- three tests as a range of flags
abbrev pub flags : Bool → Bool → Bool → Span
flags least guess most = range (Flag least) (Flag guess) (Flag most)

abbrev pub compare : Comparison → Span → Span → Span
compare Equal a b = flags (certainly_equal a b) (equal a.sg b.sg) (overlap a b)
compare Differs a b = flags (not (overlap a b)) (not (equal a.sg b.sg)) (not (certainly_equal a b))
compare Less a b = flags (below a.hi b.lo) (below a.sg b.sg) (below a.lo b.hi)
compare AtMost a b = flags (at_most a.hi b.lo) (at_most a.sg b.sg) (at_most a.lo b.hi)
compare Greater a b = flags (below b.hi a.lo) (below b.sg a.sg) (below b.lo a.hi)
compare AtLeast a b = flags (at_most b.hi a.lo) (at_most b.sg a.sg) (at_most b.lo a.hi)

abbrev pub and : Span → Span → Span
and a b = range (on_values.and a.lo b.lo) (on_values.and a.sg b.sg) (on_values.and a.hi b.hi)

abbrev pub or : Span → Span → Span
or a b = range (on_values.or a.lo b.lo) (on_values.or a.sg b.sg) (on_values.or a.hi b.hi)

abbrev pub opposite : Span → Span
opposite a = range (on_values.opposite a.hi) (on_values.opposite a.sg) (on_values.opposite a.lo)

-- the ends of the hull of both, with the guess of the first or of the second
abbrev pub chosen_between : Bool → Span → Span → Span
chosen_between first a b = range (lesser a.lo b.lo) (if first then a.sg else b.sg) (greater a.hi b.hi)

-- the first where the condition is certainly true, the second where it is certainly false,
-- and else the hull of both, with the guess that the condition's guess selects
abbrev pub choose : Span → Span → Span → Span
choose c a b =
    if on_values.is_true c.lo then a
    else (if not (on_values.is_true c.hi) then b
    else chosen_between (on_values.is_true c.sg) a b)

-- the operators on ranges
abbrev pub on_ranges : Operators Span
on_ranges = record {
  literal = certain;
  add = add;
  subtract = subtract;
  multiply = multiply;
  negate = negate;
  compare = compare;
  and = and;
  or = or;
  not = opposite;
  choose = choose;
}

-- the range of an expression on a row of ranges
abbrev pub range_of : Term → List Span → Span
range_of e row = evaluate on_ranges e row
