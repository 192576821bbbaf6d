-- The points as boxes of Group's plan: the guesses of keys, once each, with their triples and what is kept of the rows that
-- guess them.
use Rattle.std.specs.Prelude.{ℕ, ◌+◌, ◌*◌, List, ◌∷◌, ◌++◌, flat_map, length}
use Rattle.au_algebra.specs.declared.query.Agg.{Agg}
use Rattle.au_plain.specs.declared.plan.PAgg.{PAgg}
use Rattle.au_plain.specs.declared.plan.PAgg.TheVariants.{Max}
use Rattle.au_plain.specs.Plans.{PlanTree, Extend, Keep, extend_all}
use Rattle.au_combine.specs.Boxes.{boxes}
use Rattle.au_rwexpr.specs.Cells.{run}
use Rattle.au_rwexpr.specs.Counts.{one_term}
use Rattle.au_rwgroup.specs.declared.folding.Folding.{Folding}
use Rattle.au_rwgroup.specs.Groups.{group_columns}
use Rattle.au_rwgroup.specs.GroupPlan.{group_over, kept_for}
use Rattle.au_rwpoints.specs.RowPlans.{guess_places}

-- of the rows that guess a point: whether one with certain keys is there in every world, whether one is there in the guess
-- world, and then others; the tests stand at n
abbrev pub point_aggs : ℕ → List PAgg → List PAgg
point_aggs n kept = Max n ∷ Max (n + 1) ∷ kept

-- of k hulls, two counts, m further columns and one behind them: the guesses, the counts, the last column and the further ones
abbrev pub point_places : ℕ → ℕ → List ℕ
point_places k m = let w = 3 * k in guess_places 0 k ++ (w ∷ (w + 1) ∷ (w + 2 + m) ∷ run (w + 2) m)

-- a point stands for one group at most
abbrev pub point_boxes : ℕ → ℕ → List PAgg → PlanTree → PlanTree
point_boxes c k kept p =
    Keep (point_places k (length kept))
    (Extend one_term (boxes k (point_aggs (3 * c + 3) kept) (extend_all (group_columns c k) p)))

-- the outputs of the points of the first k of c columns
abbrev pub points_plan : Folding → ℕ → ℕ → List Agg → PlanTree → PlanTree
points_plan how c k aggs p = group_over how c k aggs (point_boxes c k (flat_map kept_for aggs) p) p
