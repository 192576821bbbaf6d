-- What the plan of Difference gives, where its inputs give relations of the same kinds.
use Rattle.std.specs.Prelude.{◌≡◌, ℕ, List, ◌++◌, length, flat_map, ℤ}
use Rattle.au_value.specs.declared.kinds.Kind.{Kind}
use Rattle.au_algebra.specs.Ordinary.{Rows}
use Rattle.au_algebra.specs.Bounded.{Bounded, combine, difference}
use Rattle.au_algebra.specs.Laws.{IsRelation}
use Rattle.au_algebra.specs.Fits.{triple_numbers, difference_sums}
use Rattle.au_plain.specs.Plans.{PlanTree}
use Rattle.au_plain.specs.PlanKinds.{FitTables}
use Rattle.au_encode.specs.Gives.{GivesRelation}

-- Where the left input gives the combined rows of a relation of `c` columns, and the right input a relation of the same
-- kinds, the plan gives their difference. Its numbers are those of the inputs and of the combined triples, and the sums
-- over the right rows.
abbrev pub Subtracts : ℕ → PlanTree → PlanTree → PlanTree → Type 0
Subtracts c left right p =
    (kinds : List (List Kind)) (tables : List Rows) (ks : List Kind) (xs ys : Bounded) (ms ns : List ℤ) →
    FitTables tables → length ks ≡ c → IsRelation ks xs →
    GivesRelation kinds tables left ks (combine xs) ms → GivesRelation kinds tables right ks ys ns →
    GivesRelation kinds tables p ks (difference xs ys)
    (ms ++ (ns ++ (triple_numbers (combine xs) ++ flat_map (difference_sums ys) (combine xs))))
