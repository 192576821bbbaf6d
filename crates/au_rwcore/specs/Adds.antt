-- The numbers that the plan of each operator adds to those of its inputs: where the operator's own lie in the range, none
-- that is added leaves it, whatever the inputs' numbers are.
use Rattle.std.specs.Prelude.{◌≡◌, ℕ, List, ◌++◌, length, flat_map, Some}
use Rattle.au_value.specs.declared.kinds.Kind.{Kind}
use Rattle.au_value.specs.declared.kinds.Kind.TheVariants.{Flag}
use Rattle.au_expr.specs.Figures.{Fit}
use Rattle.au_expr.specs.Terms.{Term}
use Rattle.au_expr.specs.Kinds.{kind_in}
use Rattle.au_expr.specs.Numbers.{expr_numbers}
use Rattle.au_algebra.specs.Ordinary.{Rows}
use Rattle.au_algebra.specs.Bounded.{Bounded, select, product}
use Rattle.au_algebra.specs.Fits.{triple_numbers}
use Rattle.au_algebra.specs.Typing.{items_kinds}
use Rattle.au_plain.specs.Plans.{PlanTree}
use Rattle.au_plain.specs.PlanNumbers.{plan_numbers}
use Rattle.au_rwexpr.specs.Added.{AddsInRange, Encodes}

-- those of the condition and of the triples
abbrev pub AddsBySelect : ℕ → Term → PlanTree → PlanTree → Type 0
AddsBySelect c e of p =
    (tables : List Rows) (ks : List Kind) (rows : Bounded) →
    length ks ≡ c → kind_in ks e ≡ Some Flag → Encodes tables of ks rows →
    Fit (flat_map (λ r. expr_numbers e r.cells) rows ++ triple_numbers (select e rows)) →
    AddsInRange (plan_numbers of tables) (plan_numbers p tables)

-- those of the items
abbrev pub AddsByProject : ℕ → List Term → PlanTree → PlanTree → Type 0
AddsByProject c items of p =
    (tables : List Rows) (ks js : List Kind) (rows : Bounded) →
    length ks ≡ c → items_kinds ks items ≡ Some js → Encodes tables of ks rows →
    Fit (flat_map (λ r. flat_map (λ e. expr_numbers e r.cells) items) rows) →
    AddsInRange (plan_numbers of tables) (plan_numbers p tables)

-- those of the triples
abbrev pub AddsByProduct : ℕ → ℕ → PlanTree → PlanTree → PlanTree → Type 0
AddsByProduct c d left right p =
    (tables : List Rows) (ks js : List Kind) (xs ys : Bounded) →
    length ks ≡ c → length js ≡ d → Encodes tables left ks xs → Encodes tables right js ys →
    Fit (triple_numbers (product xs ys)) →
    AddsInRange (plan_numbers left tables ++ plan_numbers right tables) (plan_numbers p tables)

-- A union has no number of its own, and its plan adds none.
abbrev pub AddsByUnion : PlanTree → PlanTree → PlanTree → Type 0
AddsByUnion left right p =
    (tables : List Rows) → plan_numbers p tables ≡ plan_numbers left tables ++ plan_numbers right tables
