-- What the plan of Combine gives, where its input gives a relation.
use Rattle.std.specs.Prelude.{◌≡◌, ℕ, List, ◌++◌, length, ℤ}
use Rattle.au_value.specs.declared.kinds.Kind.{Kind}
use Rattle.au_algebra.specs.Ordinary.{Rows}
use Rattle.au_algebra.specs.Bounded.{Bounded, combine}
use Rattle.au_algebra.specs.Fits.{triple_numbers}
use Rattle.au_plain.specs.Plans.{PlanTree}
use Rattle.au_encode.specs.Gives.{GivesRelation}

-- Where the input gives a relation of `c` columns, the plan gives its combined rows.
-- Its numbers are those of the input and of the summed triples.
abbrev pub Combines : ℕ → PlanTree → PlanTree → Type 0
Combines c of p =
    (kinds : List (List Kind)) (tables : List Rows) (ks : List Kind) (rows : Bounded) (ns : List ℤ) →
    length ks ≡ c → GivesRelation kinds tables of ks rows ns →
    GivesRelation kinds tables p ks (combine rows) (ns ++ triple_numbers (combine rows))
