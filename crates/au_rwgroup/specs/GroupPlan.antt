-- Group as a plan: the boxes joined with the folds of the rows that overlap them, grouped once more by the boxes.
use Rattle.std.specs.Prelude.{ℕ, ◌+◌, ◌*◌, List, [], ◌∷◌, ◌++◌, length, flat_map}
use Rattle.au_algebra.specs.declared.query.Agg.{Agg}
use Rattle.au_algebra.specs.declared.query.Agg.TheVariants as agg
use Rattle.au_plain.specs.declared.plan.PAgg.{PAgg}
use Rattle.au_plain.specs.declared.plan.PAgg.TheVariants.{Min, Max}
use Rattle.au_plain.specs.PTerms.{PTerm, Column, Add, And, Case}
use Rattle.au_plain.specs.Plans.{PlanTree, Keep, Join, Group, extend_all}
use Rattle.au_rwexpr.specs.Flatten.{sg, three}
use Rattle.au_rwexpr.specs.Counts.{zero_term, one_term, positive}
use Rattle.au_rwexpr.specs.Cells.{cell_places, run, three_places}
use Rattle.au_rwexpr.specs.Meets.{meets_term, same_guesses}
use Rattle.au_rwgroup.specs.declared.folding.Folding.{Folding}
use Rattle.au_rwgroup.specs.Folds.{folds, fold_width}
use Rattle.au_rwgroup.specs.Groups.{all_sure, first_grouping}
use Rattle.au_rwgroup.specs.MemberAggs.{member_aggs}

-- what the first grouping keeps for each aggregate: for Min no belonging row has a greater hi or guess, for Max no
-- lesser lo or guess; a sum needs nothing
abbrev pub kept_for : Agg → List PAgg
kept_for (agg.Sum c) = []
kept_for (agg.Min c) = Max (3 * c + 2) ∷ Max (3 * c + 1) ∷ []
kept_for (agg.Max c) = Min (3 * c) ∷ Min (3 * c + 1) ∷ []

-- the place behind what is kept for an aggregate from q on
abbrev pub behind_kept : ℕ → Agg → ℕ
behind_kept q (agg.Sum c) = q
behind_kept q (agg.Min c) = q + 2
behind_kept q (agg.Max c) = q + 2

-- how many keys there are, and the places in a joined row: of the fold, and behind it of the tests, which are added
pub record Places : Type 0 where
  pub keys : ℕ
  pub fold : ℕ
  pub tests : ℕ

-- the places of this many keys, with the fold and the tests from there on
abbrev pub places : ℕ → ℕ → ℕ → Places
places k fold tests = record { keys = k; fold = fold; tests = tests }

-- whether the fold's keys and the box are certain, and whether the fold belongs to the box
abbrev pub tests : Places → List PTerm
tests p = And (all_sure p.fold p.keys) (all_sure 0 p.keys) ∷ same_guesses 0 p.fold p.keys ∷ []

abbrev pub is_sure : Places → PTerm
is_sure p = Column p.tests

abbrev pub belongs : Places → PTerm
belongs p = Column (p.tests + 1)

-- whether its rows surely have copies in each group, and whether they have copies in the guess world
abbrev pub weights : Places → List PTerm
weights p =
    And (is_sure p) (Column (p.fold + 3 * p.keys))
    ∷ And (belongs p) (Column (p.fold + 3 * p.keys + 1))
    ∷ []

abbrev pub surely : Places → PTerm
surely p = Column (p.tests + 2)

abbrev pub guessed : Places → PTerm
guessed p = Column (p.tests + 3)

-- a sum that counts for all members, with one that counts for certain members alone
abbrev pub with_sure : Places → ℕ → ℕ → PTerm
with_sure p all sure = Case (is_sure p) (Add (Column all) (Column sure)) (Column all)

-- an end for MIN or MAX where its rows have copies, and else what was kept
abbrev pub end_columns : Places → ℕ → ℕ → List PTerm
end_columns p q y =
    Column y
    ∷ Case (guessed p) (Column (y + 1)) (Column (q + 1))
    ∷ Case (surely p) (Column (y + 2)) (Column q)
    ∷ Column (y + 3)
    ∷ []

-- four columns for an aggregate whose kept columns stand at q, and those of the fold at y
abbrev pub member_columns : Places → ℕ → ℕ → Agg → List PTerm
member_columns p q y (agg.Sum c) =
    with_sure p y (y + 3) ∷ Case (belongs p) (Column (y + 1)) zero_term ∷ with_sure p (y + 2) (y + 4) ∷ zero_term ∷ []
member_columns p q y (agg.Min c) = end_columns p q y
member_columns p q y (agg.Max c) = end_columns p q y

-- the columns of each, and whether the members are surely there
abbrev pub each_member_columns : Places → ℕ → ℕ → List Agg → List PTerm
each_member_columns p q y [] = Case (surely p) one_term zero_term ∷ []
each_member_columns p q y (a ∷ aggs) = member_columns p q y a ++ each_member_columns p (behind_kept q a) (y + 5) aggs

-- what is added to a joined row: four places behind the fold stand the columns of the aggregates
abbrev pub all_member_columns : Places → ℕ → List Agg → List PTerm
all_member_columns p q aggs = tests p ++ (weights p ++ each_member_columns p q (p.fold + 3 * p.keys + 2) aggs)

-- their aggregates, from a place on
abbrev pub all_member_aggs : ℕ → List Agg → List PAgg
all_member_aggs n [] = Max n ∷ []
all_member_aggs n (a ∷ aggs) = member_aggs n a ++ all_member_aggs (n + 4) aggs

-- the range of an aggregate from its four results at z, where there says that a sure member is there and
-- has_guess that the group is guessed
abbrev pub result_columns : PTerm → PTerm → ℕ → Agg → List PTerm
result_columns there has_guess z (agg.Sum c) =
    three (Column z) (Case has_guess (Column (z + 1)) (Column z)) (Column (z + 2))
result_columns there has_guess z (agg.Min c) =
    three (Column z) (Case has_guess (Column (z + 1)) (Column z)) (Case there (Column (z + 2)) (Column (z + 3)))
result_columns there has_guess z (agg.Max c) =
    let low = Case there (Column (z + 2)) (Column (z + 3)) in three low (Case has_guess (Column (z + 1)) low) (Column z)

abbrev pub all_result_columns : PTerm → PTerm → ℕ → List Agg → List PTerm
all_result_columns there has_guess z [] = []
all_result_columns there has_guess z (a ∷ aggs) =
    result_columns there has_guess z a ++ all_result_columns there has_guess (z + 4) aggs

-- the boxes joined with the folds that overlap them, with further columns, grouped by the boxes
abbrev pub second_grouping : ℕ → ℕ → List PTerm → List PAgg → PlanTree → PlanTree → PlanTree
second_grouping k b columns aggs boxes folds = Group (run 0 b) aggs (extend_all columns (Join (meets_term b 0 k) boxes folds))

-- a group's columns: the hulls of its keys, the ranges of the aggregates behind their results, and its triple
abbrev pub result_places : ℕ → ℕ → ℕ → List ℕ
result_places k results n = cell_places 0 k ++ (cell_places results n ++ three_places (3 * k))

-- the outputs of boxes with their triples and what is kept for the aggregates
abbrev pub group_over : Folding → ℕ → ℕ → List Agg → PlanTree → PlanTree → PlanTree
group_over how c k aggs boxes p =
    let b = 3 * k + 3 + length (flat_map kept_for aggs) in
    let joined = places k b (b + fold_width k (length aggs)) in
    let there = b + 4 * length aggs in
    Keep (result_places k (there + 1) (length aggs))
    (extend_all (all_result_columns (positive (Column there)) (positive (sg (3 * k))) b aggs)
    (second_grouping k b (all_member_columns joined (3 * k + 3) aggs) (all_member_aggs (joined.tests + 4) aggs)
    boxes (folds how c k aggs p)))

-- Group's boxes are the hulls of keys
abbrev pub group_plan : Folding → ℕ → ℕ → List Agg → PlanTree → PlanTree
group_plan how c k aggs p = group_over how c k aggs (first_grouping c k (flat_map kept_for aggs) p) p
