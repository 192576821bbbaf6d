-- What is kept of an aggregate over rows that are not: for each group its sum with the magnitudes, or its best number.
use Rattle.std.specs.Prelude.{ℕ, List, [], map, ℤ, pos}
use Rattle.au_value.specs.Adding.{Sum, no_terms, with_term}
use Rattle.au_plain.specs.declared.plan.PAgg.{PAgg}
use Rattle.au_plain.specs.declared.plan.PAgg.TheVariants as agg
use Rattle.au_codes.specs.Codes.{CellRows}
use Rattle.au_codes.specs.CellMeaning.{cell_in, greater_number, lesser_number}
use Rattle.au_folds.specs.Puts.{put_all}

-- with the aggregate's column
pub data Kept : Type 0 where
  Sums : ℕ → List Sum → Kept
  Lowest : ℕ → List ℤ → Kept
  Highest : ℕ → List ℤ → Kept

-- of no groups
abbrev pub nothing_kept : PAgg → Kept
nothing_kept (agg.Sum c) = Sums c []
nothing_kept (agg.Min c) = Lowest c []
nothing_kept (agg.Max c) = Highest c []

-- the cells of a column
abbrev pub column_of : ℕ → CellRows → List ℤ
column_of c rows = map (λ row. cell_in row c) rows

-- the sums, and the best numbers, when terms are put in at places
abbrev pub sums_with : List Sum → List ℕ → List ℤ → List Sum
sums_with ss places zs = put_all (with_term no_terms) with_term ss places zs

abbrev pub least_with : List ℤ → List ℕ → List ℤ → List ℤ
least_with bests places zs = put_all (λ z. z) lesser_number bests places zs

abbrev pub greatest_with : List ℤ → List ℕ → List ℤ → List ℤ
greatest_with bests places zs = put_all (λ z. z) greater_number bests places zs

-- more rows, of which each is in the group at its place
abbrev pub kept_with : List ℕ → CellRows → Kept → Kept
kept_with places rows (Sums c ss) = Sums c (sums_with ss places (column_of c rows))
kept_with places rows (Lowest c zs) = Lowest c (least_with zs places (column_of c rows))
kept_with places rows (Highest c zs) = Highest c (greatest_with zs places (column_of c rows))

-- the aggregate of each group
abbrev pub kept_values : Kept → List ℤ
kept_values (Sums c ss) = map (λ s. s.total) ss
kept_values (Lowest c zs) = zs
kept_values (Highest c zs) = zs

-- the magnitudes of sums, and their numbers, of which none may leave 128 bits
abbrev pub magnitudes_of : List Sum → List ℤ
magnitudes_of ss = map (λ s. pos s.magnitude) ss

abbrev pub kept_numbers : Kept → List ℤ
kept_numbers (Sums c ss) = magnitudes_of ss
kept_numbers (Lowest c zs) = []
kept_numbers (Highest c zs) = []
