-- Worked plans whose conjuncts are moved, by computation.
use Rattle.std.specs.Prelude.{◌≡◌, [], ◌∷◌, pos, true}
use Rattle.std.proofs.Common.{refl}
use Rattle.au_value.specs.declared.value.Value.TheVariants.{Int, Flag}
use Rattle.au_plain.specs.declared.expr.Comparison2.TheVariants.{Equal, Less, AtMost}
use Rattle.au_plain.specs.declared.plan.PAgg.TheVariants.{Sum}
use Rattle.au_plain.specs.PTerms.{PTerm, Column, Literal, Add, Multiply, Compare, And, Case}
use Rattle.au_plain.specs.Plans.{PlanTree, Scan, Extend, Keep, Filter, Join, Group}
use Rattle.au_passes.specs.Pushing.{pushed}

-- SELECT a.id FROM t a, t b WHERE a.id = b.id, over encoded rows: id's lo, sg and hi at 0, 1 and 2, and the triple
abbrev pairs_when : PTerm → PlanTree
pairs_when condition =
    Keep (0 ∷ 1 ∷ 2 ∷ 6 ∷ 7 ∷ 8 ∷ 12 ∷ 13 ∷ 14 ∷ [])
    (Extend (Multiply (Column 5) (Column 11))
    (Extend (Multiply (Column 4) (Column 10))
    (Extend (Multiply (Column 3) (Column 9))
    (Join condition (Scan 0 6) (Scan 0 6)))))

-- the columns of a.id, b.id and a.id = b.id: the last of these is whether the ranges overlap
abbrev compared : PlanTree → PlanTree
compared p =
    Extend (And (Compare AtMost (Column 9) (Column 14)) (Compare AtMost (Column 12) (Column 11)))
    (Extend (Compare Equal (Column 10) (Column 13))
    (Extend (And (And (Compare Equal (Column 9) (Column 11)) (Compare Equal (Column 12) (Column 14))) (Compare Equal (Column 9) (Column 12)))
    (Extend (Column 5)
    (Extend (Column 4)
    (Extend (Column 3)
    (Extend (Column 2)
    (Extend (Column 1)
    (Extend (Column 0) p))))))))

-- the pairs that pass, with least and guess where the test holds certainly and in the guess world
abbrev selected : (PlanTree → PlanTree) → PlanTree → PlanTree
selected passing p =
    Keep (0 ∷ 1 ∷ 2 ∷ 3 ∷ 4 ∷ 5 ∷ 18 ∷ 19 ∷ 8 ∷ [])
    (Extend (Case (Column 16) (Column 7) (Literal (Int (pos 0))))
    (Extend (Case (Column 15) (Column 6) (Literal (Int (pos 0)))) (passing (compared p))))

abbrev projected : PlanTree → PlanTree
projected p = Keep (9 ∷ 10 ∷ 11 ∷ 6 ∷ 7 ∷ 8 ∷ []) (Extend (Column 2) (Extend (Column 1) (Extend (Column 0) p)))

-- the test that the ranges overlap is made of the pairs, in the place of TRUE
overlap_reaches_join :
    pushed (projected (selected (Filter (Column 17)) (pairs_when (Literal (Flag true)))))
    ≡ projected (selected (λ p. p) (pairs_when (And (Compare AtMost (Column 0) (Column 8)) (Compare AtMost (Column 6) (Column 2)))))
overlap_reaches_join = refl

-- a conjunct on one side is tested on this side, and one on both sides is tested on the pairs
sides_reach_tables :
    pushed
    (Filter
    (And (Compare Less (Column 0) (Literal (Int (pos 5)))) (And (Compare Less (Literal (Int (pos 7))) (Column 1)) (Compare Equal (Column 0) (Column 1))))
    (Join (Literal (Flag true)) (Scan 0 1) (Scan 1 1)))
    ≡ Join (Compare Equal (Column 0) (Column 1)) (Filter (Compare Less (Column 0) (Literal (Int (pos 5)))) (Scan 0 1))
    (Filter (Compare Less (Literal (Int (pos 7))) (Column 0)) (Scan 1 1))
sides_reach_tables = refl

-- A conjunct with arithmetic stays, also where it stands in a column: without pairs it is not evaluated.
abbrev below_zero : PTerm
below_zero = Compare Less (Add (Column 1) (Literal (Int (pos 1)))) (Literal (Int (pos 0)))

abbrev all_pairs : PlanTree
all_pairs = Join (Literal (Flag true)) (Scan 0 1) (Scan 1 1)

arithmetic_stays : pushed (Filter below_zero all_pairs) ≡ Filter below_zero all_pairs
arithmetic_stays = refl

defined_arithmetic_stays : pushed (Filter (Column 2) (Extend below_zero all_pairs)) ≡ Filter (Column 2) (Extend below_zero all_pairs)
defined_arithmetic_stays = refl

-- a conjunct does not pass a grouping
groups_are_filtered : pushed (Filter (Column 0) (Group (0 ∷ []) (Sum 1 ∷ []) (Scan 0 2))) ≡ Filter (Column 0) (Group (0 ∷ []) (Sum 1 ∷ []) (Scan 0 2))
groups_are_filtered = refl
