-- The numbers that the plan of Combine adds to those of its input: where the summed triples lie in the range, none that is
-- added leaves it, whatever the input's numbers are.
use Rattle.std.specs.Prelude.{◌≡◌, ℕ, List, length}
use Rattle.au_value.specs.declared.kinds.Kind.{Kind}
use Rattle.au_expr.specs.Figures.{Fit}
use Rattle.au_algebra.specs.Ordinary.{Rows}
use Rattle.au_algebra.specs.Bounded.{Bounded, combine}
use Rattle.au_algebra.specs.Fits.{triple_numbers}
use Rattle.au_plain.specs.Plans.{PlanTree}
use Rattle.au_plain.specs.PlanNumbers.{plan_numbers}
use Rattle.au_rwexpr.specs.Added.{AddsInRange, Encodes}

abbrev pub AddsByCombine : ℕ → PlanTree → PlanTree → Type 0
AddsByCombine c of p =
    (tables : List Rows) (ks : List Kind) (rows : Bounded) →
    length ks ≡ c → Encodes tables of ks rows → Fit (triple_numbers (combine rows)) →
    AddsInRange (plan_numbers of tables) (plan_numbers p tables)
