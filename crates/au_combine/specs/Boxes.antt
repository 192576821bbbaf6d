-- One row per distinct list of guesses: the hulls of the first columns, then other aggregates.
use Rattle.std.specs.Prelude.{ℕ, zero, suc, ◌+◌, ◌*◌, List, [], ◌∷◌, ◌++◌, length}
use Rattle.au_plain.specs.declared.plan.PAgg.{PAgg}
use Rattle.au_plain.specs.declared.plan.PAgg.TheVariants.{Sum, Min, Max}
use Rattle.au_plain.specs.Plans.{PlanTree, Keep, Group}
use Rattle.au_rwexpr.specs.Cells.{run}

-- the places of the guesses of so many ranges, from one on
abbrev pub sg_places : ℕ → ℕ → List ℕ
sg_places i zero = []
sg_places i (suc k) = (i + 1) ∷ sg_places (i + 3) k

-- the least lo and the greatest hi of each
abbrev pub box_aggs : ℕ → ℕ → List PAgg
box_aggs i zero = []
box_aggs i (suc k) = Min i ∷ Max (i + 2) ∷ box_aggs (i + 3) k

-- lo, sg and hi of each, where the guesses stand from one place on and the pairs of ends from another
abbrev pub weave : ℕ → ℕ → ℕ → List ℕ
weave i j zero = []
weave i j (suc k) = j ∷ i ∷ (j + 1) ∷ weave (i + 1) (j + 2) k

abbrev pub boxes : ℕ → List PAgg → PlanTree → PlanTree
boxes k extra p = Keep (weave 0 k k ++ run (k + 2 * k) (length extra)) (Group (sg_places 0 k) (box_aggs 0 k ++ extra) p)

-- the rows with equal guesses in one, with the sum of their triples
abbrev pub combine_plan : ℕ → PlanTree → PlanTree
combine_plan c p = boxes c (Sum (3 * c) ∷ Sum (3 * c + 1) ∷ Sum (3 * c + 2) ∷ []) p
