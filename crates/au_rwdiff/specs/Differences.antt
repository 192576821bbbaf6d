-- Difference as a plan: from each row of a combined left side its partners on the right take counts, which are summed
-- beside three zeros, so that no left row is lost.
use Rattle.std.specs.Prelude.{ℕ, ◌+◌, ◌*◌, List, [], ◌∷◌, ◌++◌}
use Rattle.au_plain.specs.declared.plan.PAgg.TheVariants.{Sum}
use Rattle.au_plain.specs.PTerms.{PTerm, Subtract, Case, greatest_of_two}
use Rattle.au_plain.specs.Plans.{PlanTree, Keep, Filter, Join, Union, Group, extend_all}
use Rattle.au_rwexpr.specs.Cells.{cell_places, three_places, run}
use Rattle.au_rwexpr.specs.Counts.{zero_term, positive}
use Rattle.au_rwexpr.specs.Flatten.{lo, sg, hi, three}
use Rattle.au_rwexpr.specs.Meets.{meets_term, same_guesses, surely_equal}

-- nothing, three times
abbrev pub no_columns : List PTerm
no_columns = three zero_term zero_term zero_term

-- what a right row takes from a left row that it overlaps: its most, its guess where that is the left row's, and its
-- least where both are certain and equal; by the places of the right row's cells and of its counts
abbrev pub taken_columns : ℕ → ℕ → ℕ → List PTerm
taken_columns c w u = three (hi u) (Case (same_guesses 0 w c) (sg u) zero_term) (Case (surely_equal 0 w c) (lo u) zero_term)

-- what is left, by the places of a row's counts and of the sums of what is taken
abbrev pub left_columns : ℕ → ℕ → List PTerm
left_columns t w =
    three (greatest_of_two (Subtract (lo t) (lo w)) zero_term) (greatest_of_two (Subtract (sg t) (sg w)) zero_term)
    (greatest_of_two (Subtract (hi t) (hi w)) zero_term)

-- each left row, of this width, with what one of its partners takes
abbrev pub taken_plan : ℕ → ℕ → PlanTree → PlanTree → PlanTree
taken_plan c w p q = Keep (run 0 w ++ three_places (w + w)) (extend_all (taken_columns c w (w + 3 * c)) (Join (meets_term 0 w c) p q))

-- each left row with the sums of what is taken
abbrev pub summed_plan : ℕ → ℕ → PlanTree → PlanTree → PlanTree
summed_plan c w p q = Group (run 0 w) (Sum w ∷ Sum (w + 1) ∷ Sum (w + 2) ∷ []) (Union (extend_all no_columns p) (taken_plan c w p q))

-- the rows of which a copy may be left, with the counts that are left
abbrev pub remaining : ℕ → ℕ → PlanTree → PlanTree → PlanTree
remaining c w p q =
    Keep (cell_places 0 c ++ three_places (w + 3)) (Filter (positive (hi (w + 3))) (extend_all (left_columns (3 * c) w) (summed_plan c w p q)))

-- the left rows less the right rows, of so many columns
abbrev pub difference_plan : ℕ → PlanTree → PlanTree → PlanTree
difference_plan c p q = remaining c (3 * c + 3) p q
