-- What the plan of each operator gives, where its inputs give relations.
use Rattle.std.specs.Prelude.{◌≡◌, ℕ, List, ◌++◌, length, flat_map, Some, ℤ}
use Rattle.au_value.specs.declared.kinds.Kind.{Kind}
use Rattle.au_value.specs.declared.kinds.Kind.TheVariants.{Flag}
use Rattle.au_expr.specs.Terms.{Term}
use Rattle.au_expr.specs.Kinds.{kind_in}
use Rattle.au_expr.specs.Numbers.{expr_numbers}
use Rattle.au_algebra.specs.Ordinary.{Rows}
use Rattle.au_algebra.specs.Bounded.{Bounded, select, project, product, union}
use Rattle.au_algebra.specs.Fits.{triple_numbers}
use Rattle.au_algebra.specs.Typing.{items_kinds}
use Rattle.au_plain.specs.Plans.{PlanTree}
use Rattle.au_encode.specs.Gives.{GivesRelation}

-- Where the input gives a relation of `c` columns, for which the condition is typed, the plan gives its selected rows.
-- Its numbers are those of the input, of the condition and of the triples.
abbrev pub Selects : ℕ → Term → PlanTree → PlanTree → Type 0
Selects c e of p =
    (kinds : List (List Kind)) (tables : List Rows) (ks : List Kind) (rows : Bounded) (ns : List ℤ) →
    length ks ≡ c → kind_in ks e ≡ Some Flag → GivesRelation kinds tables of ks rows ns →
    GivesRelation kinds tables p ks (select e rows) (ns ++ (flat_map (λ r. expr_numbers e r.cells) rows ++ triple_numbers (select e rows)))

-- Where the input gives a relation of `c` columns, for which the items are typed, the plan gives the items' ranges.
-- Its numbers are those of the input and of the items.
abbrev pub Projects : ℕ → List Term → PlanTree → PlanTree → Type 0
Projects c items of p =
    (kinds : List (List Kind)) (tables : List Rows) (ks js : List Kind) (rows : Bounded) (ns : List ℤ) →
    length ks ≡ c → items_kinds ks items ≡ Some js → GivesRelation kinds tables of ks rows ns →
    GivesRelation kinds tables p js (project items rows) (ns ++ flat_map (λ r. flat_map (λ e. expr_numbers e r.cells) items) rows)

-- Where the inputs give relations of `c` and `d` columns, the plan gives their product.
-- Its numbers are those of the inputs and of the triples.
abbrev pub Multiplies : ℕ → ℕ → PlanTree → PlanTree → PlanTree → Type 0
Multiplies c d left right p =
    (kinds : List (List Kind)) (tables : List Rows) (ks js : List Kind) (xs ys : Bounded) (ms ns : List ℤ) →
    length ks ≡ c → length js ≡ d → GivesRelation kinds tables left ks xs ms → GivesRelation kinds tables right js ys ns →
    GivesRelation kinds tables p (ks ++ js) (product xs ys) (ms ++ (ns ++ triple_numbers (product xs ys)))

-- Where the inputs give relations of the same kinds, the plan gives their union. It makes no number of its own.
abbrev pub Unites : PlanTree → PlanTree → PlanTree → Type 0
Unites left right p =
    (kinds : List (List Kind)) (tables : List Rows) (ks : List Kind) (xs ys : Bounded) (ms ns : List ℤ) →
    GivesRelation kinds tables left ks xs ms → GivesRelation kinds tables right ks ys ns →
    GivesRelation kinds tables p ks (union xs ys) (ms ++ ns)
