-- Rows with equal guessed keys in one as a plan, and Distinct: the box of the keys, the triple and other aggregates.
use Rattle.std.specs.Prelude.{ℕ, zero, suc, ◌+◌, ◌*◌, true, List, [], ◌∷◌, ◌++◌, length}
use Rattle.au_value.specs.declared.value.Value.TheVariants.{Flag}
use Rattle.au_plain.specs.declared.expr.Comparison2.TheVariants.{Equal}
use Rattle.au_plain.specs.declared.plan.PAgg.{PAgg}
use Rattle.au_plain.specs.declared.plan.PAgg.TheVariants.{Sum, Max}
use Rattle.au_plain.specs.PTerms.{PTerm, Column, Literal, Add, Compare, And, Case}
use Rattle.au_plain.specs.Plans.{PlanTree, Extend, Keep, extend_all}
use Rattle.au_rwexpr.specs.Flatten.{lo, sg, hi}
use Rattle.au_rwexpr.specs.Counts.{zero_term, one_term, positive}
use Rattle.au_rwexpr.specs.Cells.{cell_places, run}
use Rattle.au_combine.specs.Boxes.{boxes}

-- whether the range at a place is certain
abbrev pub sure : ℕ → PTerm
sure i = Compare Equal (lo i) (hi i)

-- whether so many ranges from a place on are certain
abbrev pub all_sure : ℕ → ℕ → PTerm
all_sure i zero = Literal (Flag true)
all_sure i (suc zero) = sure i
all_sure i (suc (suc k)) = And (sure i) (all_sure (i + 3) (suc k))

-- what a row adds to the triple of its group
abbrev pub group_columns : ℕ → ℕ → List PTerm
group_columns c k =
    let t = 3 * c in
    Case (And (all_sure 0 k) (positive (lo t))) one_term zero_term
    ∷ Case (positive (sg t)) one_term zero_term
    ∷ Case (all_sure 0 k) zero_term (hi t)
    ∷ Case (all_sure 0 k) one_term zero_term
    ∷ []

-- the aggregates of these columns, which begin at a place, and then others
abbrev pub first_aggs : ℕ → List PAgg → List PAgg
first_aggs n kept = Max n ∷ Max (n + 1) ∷ Sum (n + 2) ∷ Max (n + 3) ∷ kept

-- per list of guessed keys: the box, its triple, and further aggregates over the rows with these keys
abbrev pub first_grouping : ℕ → ℕ → List PAgg → PlanTree → PlanTree
first_grouping c k kept p =
    let w = 3 * k in
    Keep (cell_places 0 k ++ (w ∷ (w + 1) ∷ (w + 4 + length kept) ∷ run (w + 4) (length kept)))
    (Extend (Add (Column (w + 2)) (Column (w + 3))) (boxes k (first_aggs (3 * c + 3) kept) (extend_all (group_columns c k) p)))

-- one row per list of guesses of all columns
abbrev pub distinct_plan : ℕ → PlanTree → PlanTree
distinct_plan c p = first_grouping c c [] p
