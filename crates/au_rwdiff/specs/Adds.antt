-- The numbers that the plan of Difference adds to those of its inputs: where the operator's own lie in the range, and so do
-- those that the inputs' rows hold, none that is added leaves it, whatever the other numbers of the inputs are.
use Rattle.std.specs.Prelude.{◌≡◌, ℕ, List, ◌++◌, length, flat_map}
use Rattle.au_value.specs.declared.kinds.Kind.{Kind}
use Rattle.au_expr.specs.Figures.{Fit}
use Rattle.au_algebra.specs.Ordinary.{Rows}
use Rattle.au_algebra.specs.Bounded.{Bounded, combine}
use Rattle.au_algebra.specs.Laws.{IsRelation}
use Rattle.au_algebra.specs.Fits.{triple_numbers, difference_sums}
use Rattle.au_plain.specs.Plans.{PlanTree}
use Rattle.au_plain.specs.PlanNumbers.{plan_numbers}
use Rattle.au_rwexpr.specs.Added.{AddsInRange, EncodesHeld}

-- those of the combined triples, and the sums over the right rows
abbrev pub AddsByDifference : ℕ → PlanTree → PlanTree → PlanTree → Type 0
AddsByDifference c left right p =
    (tables : List Rows) (ks : List Kind) (xs ys : Bounded) →
    length ks ≡ c → IsRelation ks xs → EncodesHeld tables left ks (combine xs) → EncodesHeld tables right ks ys →
    Fit (triple_numbers (combine xs) ++ flat_map (difference_sums ys) (combine xs)) →
    AddsInRange (plan_numbers left tables ++ plan_numbers right tables) (plan_numbers p tables)
