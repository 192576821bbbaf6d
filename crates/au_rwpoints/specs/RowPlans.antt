-- Plans that change each row of their input: the guesses of rows, and the rows with unsure keys.
use Rattle.std.specs.Prelude.{ℕ, zero, suc, ◌+◌, ◌*◌, List, [], ◌∷◌, ◌++◌}
use Rattle.au_plain.specs.PTerms.{PTerm, Not, Case}
use Rattle.au_plain.specs.Plans.{PlanTree, Extend, Keep, Filter}
use Rattle.au_rwexpr.specs.Cells.{cell_places}
use Rattle.au_rwexpr.specs.Counts.{zero_term}
use Rattle.au_rwexpr.specs.Flatten.{lo}
use Rattle.au_rwgroup.specs.Groups.{all_sure}

-- the place of the guess, three times for each of so many ranges from a place on
abbrev pub guess_places : ℕ → ℕ → List ℕ
guess_places i zero = []
guess_places i (suc n) = (i + 1) ∷ (i + 1) ∷ (i + 1) ∷ guess_places (i + 3) n

-- the least of a row that has only certain ranges, and else 0
abbrev pub sure_least : ℕ → PTerm
sure_least c = Case (all_sure 0 c) (lo (3 * c)) zero_term

-- the guesses of c ranges, with this least
abbrev pub guess_plan : ℕ → PlanTree → PlanTree
guess_plan c p =
    let t = 3 * c in Keep (guess_places 0 c ++ ((t + 3) ∷ (t + 1) ∷ (t + 2) ∷ [])) (Extend (sure_least c) p)

-- the rows of c ranges whose first k are not all certain, with no copy certain or guessed
abbrev pub other_plan : ℕ → ℕ → PlanTree → PlanTree
other_plan c k p =
    let t = 3 * c in
    Keep (cell_places 0 c ++ ((t + 3) ∷ (t + 3) ∷ (t + 2) ∷ [])) (Extend zero_term (Filter (Not (all_sure 0 k)) p))
