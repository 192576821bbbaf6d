-- An expression over ranges as plain columns: lo, sg and hi of each node, the parts' columns before the node's own.
use Rattle.std.specs.Prelude.{ℕ, ◌+◌, ◌*◌, List, [], ◌∷◌, ◌++◌}
use Rattle.au_value.specs.declared.comparison.Comparison.{Comparison}
use Rattle.au_value.specs.declared.comparison.Comparison.TheVariants as how
use Rattle.au_expr.specs.Terms.{Term}
use Rattle.au_expr.specs.Terms as term
use Rattle.au_plain.specs.declared.expr.Comparison2.TheVariants.{Equal, Less, AtMost}
use Rattle.au_plain.specs.PTerms.{PTerm, Column, Literal, Add, Subtract, Multiply, Negate, Compare, And, Or, Not, Case, greatest_of_two, least_of_two}
use Rattle.au_rwexpr.specs.Cells.{three_places}

-- lo, sg and hi of the node whose columns begin at a place
abbrev pub lo : ℕ → PTerm
lo i = Column i

abbrev pub sg : ℕ → PTerm
sg i = Column (i + 1)

abbrev pub hi : ℕ → PTerm
hi i = Column (i + 2)

abbrev pub three : PTerm → PTerm → PTerm → List PTerm
three a b c = a ∷ b ∷ c ∷ []

-- the own columns of each kind of node, from the places of its parts
abbrev pub column_step : ℕ → List PTerm
column_step i = three (lo i) (sg i) (hi i)

abbrev pub add_step : ℕ → ℕ → List PTerm
add_step i j = three (Add (lo i) (lo j)) (Add (sg i) (sg j)) (Add (hi i) (hi j))

abbrev pub subtract_step : ℕ → ℕ → List PTerm
subtract_step i j = three (Subtract (lo i) (hi j)) (Subtract (sg i) (sg j)) (Subtract (hi i) (lo j))

abbrev pub multiply_step : ℕ → ℕ → List PTerm
multiply_step i j =
    let ll = Multiply (lo i) (lo j) in
    let lh = Multiply (lo i) (hi j) in
    let hl = Multiply (hi i) (lo j) in
    let hh = Multiply (hi i) (hi j) in
    three (least_of_two (least_of_two ll lh) (least_of_two hl hh)) (Multiply (sg i) (sg j))
    (greatest_of_two (greatest_of_two ll lh) (greatest_of_two hl hh))

abbrev pub negate_step : ℕ → List PTerm
negate_step i = three (Negate (hi i)) (Negate (sg i)) (Negate (lo i))

abbrev pub certainly_equal_term : ℕ → ℕ → PTerm
certainly_equal_term i j = And (And (Compare Equal (lo i) (hi i)) (Compare Equal (lo j) (hi j))) (Compare Equal (lo i) (lo j))

abbrev pub overlap_term : ℕ → ℕ → PTerm
overlap_term i j = And (Compare AtMost (lo i) (hi j)) (Compare AtMost (lo j) (hi i))

abbrev pub compare_step : Comparison → ℕ → ℕ → List PTerm
compare_step how.Equal i j = three (certainly_equal_term i j) (Compare Equal (sg i) (sg j)) (overlap_term i j)
compare_step how.Differs i j = three (Not (overlap_term i j)) (Not (Compare Equal (sg i) (sg j))) (Not (certainly_equal_term i j))
compare_step how.Less i j = three (Compare Less (hi i) (lo j)) (Compare Less (sg i) (sg j)) (Compare Less (lo i) (hi j))
compare_step how.AtMost i j = three (Compare AtMost (hi i) (lo j)) (Compare AtMost (sg i) (sg j)) (Compare AtMost (lo i) (hi j))
compare_step how.Greater i j = three (Compare Less (hi j) (lo i)) (Compare Less (sg j) (sg i)) (Compare Less (lo j) (hi i))
compare_step how.AtLeast i j = three (Compare AtMost (hi j) (lo i)) (Compare AtMost (sg j) (sg i)) (Compare AtMost (lo j) (hi i))

abbrev pub and_step : ℕ → ℕ → List PTerm
and_step i j = three (And (lo i) (lo j)) (And (sg i) (sg j)) (And (hi i) (hi j))

abbrev pub or_step : ℕ → ℕ → List PTerm
or_step i j = three (Or (lo i) (lo j)) (Or (sg i) (sg j)) (Or (hi i) (hi j))

abbrev pub not_step : ℕ → List PTerm
not_step i = three (Not (hi i)) (Not (sg i)) (Not (lo i))

-- the first where the condition is certainly true, the last where it is certainly false, and else the middle
abbrev pub by_case : ℕ → PTerm → PTerm → PTerm → PTerm
by_case c a both b = Case (lo c) a (Case (hi c) both b)

abbrev pub case_step : ℕ → ℕ → ℕ → List PTerm
case_step c i j =
    three (by_case c (lo i) (least_of_two (lo i) (lo j)) (lo j)) (by_case c (sg i) (Case (sg c) (sg i) (sg j)) (sg j))
    (by_case c (hi i) (greatest_of_two (hi i) (hi j)) (hi j))

-- how many columns stand before an expression's own three
abbrev pub before : Term → ℕ
before (term.Column i) = 0
before (term.Literal v) = 0
before (term.Add a b) = before a + 3 + (before b + 3)
before (term.Subtract a b) = before a + 3 + (before b + 3)
before (term.Multiply a b) = before a + 3 + (before b + 3)
before (term.Negate a) = before a + 3
before (term.Compare how a b) = before a + 3 + (before b + 3)
before (term.And a b) = before a + 3 + (before b + 3)
before (term.Or a b) = before a + 3 + (before b + 3)
before (term.Not a) = before a + 3
before (term.Case c a b) = before c + 3 + (before a + 3 + (before b + 3))

-- the columns of an expression over encoded cells, added to a row of this width
abbrev pub flatten : ℕ → Term → List PTerm
flatten n (term.Column i) = column_step (3 * i)
flatten n (term.Literal v) = three (Literal v) (Literal v) (Literal v)
flatten n (term.Add a b) = flatten n a ++ (flatten (n + (before a + 3)) b ++ add_step (n + before a) (n + (before a + 3) + before b))
flatten n (term.Subtract a b) =
    flatten n a ++ (flatten (n + (before a + 3)) b ++ subtract_step (n + before a) (n + (before a + 3) + before b))
flatten n (term.Multiply a b) =
    flatten n a ++ (flatten (n + (before a + 3)) b ++ multiply_step (n + before a) (n + (before a + 3) + before b))
flatten n (term.Negate a) = flatten n a ++ negate_step (n + before a)
flatten n (term.Compare how a b) =
    flatten n a ++ (flatten (n + (before a + 3)) b ++ compare_step how (n + before a) (n + (before a + 3) + before b))
flatten n (term.And a b) = flatten n a ++ (flatten (n + (before a + 3)) b ++ and_step (n + before a) (n + (before a + 3) + before b))
flatten n (term.Or a b) = flatten n a ++ (flatten (n + (before a + 3)) b ++ or_step (n + before a) (n + (before a + 3) + before b))
flatten n (term.Not a) = flatten n a ++ not_step (n + before a)
flatten n (term.Case c a b) =
    let i = n + (before c + 3) in
    let j = i + (before a + 3) in
    flatten n c ++ (flatten i a ++ (flatten j b ++ case_step (n + before c) (i + before a) (j + before b)))

-- the columns of several expressions, and the places of their own three
abbrev pub flatten_items : ℕ → List Term → List PTerm
flatten_items n [] = []
flatten_items n (e ∷ es) = flatten n e ++ flatten_items (n + (before e + 3)) es

abbrev pub item_places : ℕ → List Term → List ℕ
item_places n [] = []
item_places n (e ∷ es) = three_places (n + before e) ++ item_places (n + (before e + 3)) es
