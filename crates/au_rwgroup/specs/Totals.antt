-- Total as a plan: the sums over all rows and a row of zeros, since a grouping of no rows gives no row.
use Rattle.std.specs.Prelude.{ℕ, ◌+◌, ◌*◌, List, [], ◌∷◌, ◌++◌, length, replicate, pos}
use Rattle.au_value.specs.declared.value.Value.TheVariants.{Int}
use Rattle.au_algebra.specs.declared.query.Agg.{Agg}
use Rattle.au_algebra.specs.declared.query.Agg.TheVariants as agg
use Rattle.au_plain.specs.declared.expr.Comparison2.TheVariants.{Less}
use Rattle.au_plain.specs.declared.plan.PAgg.{PAgg}
use Rattle.au_plain.specs.declared.plan.PAgg.TheVariants.{Sum}
use Rattle.au_plain.specs.PTerms.{PTerm, Compare, Case, Multiply}
use Rattle.au_plain.specs.Plans.{PlanTree, Rows, Keep, Union, Group, extend_all}
use Rattle.au_rwexpr.specs.Flatten.{lo, sg, hi, three}
use Rattle.au_rwexpr.specs.Counts.{zero_term, one_term}
use Rattle.au_rwexpr.specs.Cells.{run}

-- the column of an aggregate
abbrev pub agg_place : Agg → ℕ
agg_place (agg.Sum c) = c
agg_place (agg.Min c) = c
agg_place (agg.Max c) = c

-- a number times the first count where it is below 0, and times the second where not
abbrev pub signed : PTerm → PTerm → PTerm → PTerm
signed below above x = Case (Compare Less x zero_term) (Multiply below x) (Multiply above x)

-- what a row adds to the least, the guess and the greatest of a sum, where its triple stands at t and its range at i
abbrev pub sum_terms : ℕ → ℕ → List PTerm
sum_terms t i = three (signed (hi t) (lo t) (lo i)) (Multiply (sg t) (sg i)) (signed (lo t) (hi t) (hi i))

-- the same of each aggregate, one after the other
abbrev pub total_columns : ℕ → List Agg → List PTerm
total_columns t [] = []
total_columns t (a ∷ aggs) = sum_terms t (3 * agg_place a) ++ total_columns t aggs

-- three sums for each aggregate, over the columns from a place on
abbrev pub total_sums : ℕ → List Agg → List PAgg
total_sums i [] = []
total_sums i (a ∷ aggs) = Sum i ∷ Sum (i + 1) ∷ Sum (i + 2) ∷ total_sums (i + 3) aggs

-- the sums over all rows of a plan and a row of zeros
abbrev pub sums : ℕ → List Agg → PlanTree → PlanTree
sums c aggs p =
    let columns = total_columns (3 * c) aggs in
    let w = length columns in
    extend_all (three one_term one_term one_term)
    (Group [] (total_sums 0 aggs) (Union (Rows w (replicate w (Int (pos 0)) ∷ [])) (Keep (run (3 * c + 3) w) (extend_all columns p))))

-- with no aggregate the triple of one copy alone
abbrev pub total_plan : ℕ → List Agg → PlanTree → PlanTree
total_plan c [] p = Rows 3 ((Int (pos 1) ∷ Int (pos 1) ∷ Int (pos 1) ∷ []) ∷ [])
total_plan c (a ∷ aggs) p = sums c (a ∷ aggs) p
