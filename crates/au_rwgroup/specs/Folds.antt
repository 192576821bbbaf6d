-- The rows with equal key ranges in one as a plan: what they add to sums, and what they offer to MIN and MAX.
use Rattle.std.specs.Prelude.{ℕ, ◌+◌, ◌*◌, List, [], ◌∷◌, ◌++◌, length}
use Rattle.au_algebra.specs.declared.query.Agg.{Agg}
use Rattle.au_algebra.specs.declared.query.Agg.TheVariants as agg
use Rattle.au_plain.specs.declared.plan.PAgg.{PAgg}
use Rattle.au_plain.specs.declared.plan.PAgg.TheVariants.{Sum}
use Rattle.au_plain.specs.declared.expr.Comparison2.TheVariants.{Less}
use Rattle.au_plain.specs.PTerms.{PTerm, Compare, Case, Multiply}
use Rattle.au_plain.specs.Plans.{PlanTree, Group, Keep, extend_all}
use Rattle.au_rwexpr.specs.Flatten.{lo, sg, hi}
use Rattle.au_rwexpr.specs.Counts.{zero_term, positive}
use Rattle.au_rwexpr.specs.Cells.{cell_places, run}
use Rattle.au_rwgroup.specs.declared.folding.Folding.{Folding}
use Rattle.au_rwgroup.specs.declared.folding.Folding.TheVariants as folding
use Rattle.au_rwgroup.specs.MemberAggs.{member_aggs}

-- a count times a number that is below 0, and 0 for any other
abbrev pub times_below : PTerm → PTerm → PTerm
times_below n x = Case (Compare Less x zero_term) (Multiply n x) zero_term

-- a count times a number that is not below 0, and 0 for any other
abbrev pub times_above : PTerm → PTerm → PTerm
times_above n x = Case (Compare Less x zero_term) zero_term (Multiply n x)

-- Five columns for an aggregate over a row whose triple stands at t. Of a sum: what the row adds to the least, the
-- guess and the greatest as a member that is not certain, and then what it adds to the least and to the greatest besides
-- where it is certain. Each of the five, summed over rows of equal key ranges, is within the magnitudes of a sum of the
-- group to which they belong: the first and the last within its least, the third and the fourth within its greatest. A
-- column for all that a certain member adds would mix terms of both signs, and where no box makes the rows certain
-- members its sum is within neither.
abbrev pub fold_terms : ℕ → Agg → List PTerm
fold_terms t (agg.Sum c) =
    let x = 3 * c in
    times_below (hi t) (lo x)
    ∷ Multiply (sg t) (sg x)
    ∷ times_above (hi t) (hi x)
    ∷ times_above (lo t) (lo x)
    ∷ times_below (lo t) (hi x)
    ∷ []
fold_terms t (agg.Min c) = let x = 3 * c in lo x ∷ sg x ∷ hi x ∷ hi x ∷ zero_term ∷ []
fold_terms t (agg.Max c) = let x = 3 * c in hi x ∷ sg x ∷ lo x ∷ lo x ∷ zero_term ∷ []

abbrev pub all_fold_terms : ℕ → List Agg → List PTerm
all_fold_terms t [] = []
all_fold_terms t (a ∷ aggs) = fold_terms t a ++ all_fold_terms t aggs

-- what is added to a row whose triple stands at t: whether it surely has a copy, whether it has one in the guess world,
-- and the columns of the aggregates
abbrev pub fold_columns : ℕ → List Agg → List PTerm
fold_columns t aggs = positive (lo t) ∷ positive (sg t) ∷ all_fold_terms t aggs

-- the aggregates over these columns, from a place on
abbrev pub fold_aggs : ℕ → List Agg → List PAgg
fold_aggs n [] = []
fold_aggs n (a ∷ aggs) = member_aggs n a ++ (Sum (n + 4) ∷ fold_aggs (n + 5) aggs)

-- the ends of the keys, and the two tests
abbrev pub fold_places : ℕ → ℕ → List ℕ
fold_places c k = cell_places 0 k ++ ((3 * c + 3) ∷ (3 * c + 4) ∷ [])

-- how many columns a fold has
abbrev pub fold_width : ℕ → ℕ → ℕ
fold_width k n = 3 * k + 2 + 5 * n

-- One row for the rows that have equal ranges of the first k of c columns and pass the same tests; or one for each row,
-- in the same columns.
abbrev pub folds : Folding → ℕ → ℕ → List Agg → PlanTree → PlanTree
folds folding.EqualKeys c k aggs p = Group (fold_places c k) (fold_aggs (3 * c + 5) aggs) (extend_all (fold_columns (3 * c) aggs) p)
folds folding.Rows c k aggs p = Keep (fold_places c k ++ run (3 * c + 5) (5 * length aggs)) (extend_all (fold_columns (3 * c) aggs) p)
