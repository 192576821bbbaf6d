-- Physical plans over literal rows, by computation.
use Rattle.std.specs.Prelude.{◌≡◌, [], ◌∷◌, Some, None, pos, true}
use Rattle.std.proofs.Common.{refl}
use Rattle.au_value.specs.declared.kinds.Kind.TheVariants as kind
use Rattle.au_value.specs.declared.value.Value.TheVariants.{Int, Flag}
use Rattle.au_algebra.specs.Ordinary.{Rows}
use Rattle.au_plain.specs.declared.expr.Comparison2.TheVariants.{Equal, AtMost, Less}
use Rattle.au_plain.specs.PTerms.{PTerm, And, Column, Compare, Literal}
use Rattle.au_physical.specs.declared.physical.Bounds.{Bounds}
use Rattle.au_passes.specs.Conditions.{condition, conjuncts}
use Rattle.au_plan.specs.Joins.{equalities, not_equalities, not_tested}
use Rattle.au_physical.specs.Physicals.{Hash, Overlap, Scan}
use Rattle.au_physical.specs.PhysicalMeaning.{physical_rows}
use Rattle.au_physical.specs.PhysicalKinds.{physical_kinds}
use Rattle.au_physical.specs.PhysicalNumbers.{physical_numbers}

-- two tables of ranges, each a lower and an upper end
abbrev left : Rows
left = (Int (pos 1) ∷ Int (pos 3) ∷ []) ∷ (Int (pos 5) ∷ Int (pos 5) ∷ []) ∷ []

abbrev right : Rows
right =
    (Int (pos 3) ∷ Int (pos 6) ∷ [])
    ∷ (Int (pos 2) ∷ Int (pos 4) ∷ [])
    ∷ (Int (pos 2) ∷ Int (pos 2) ∷ [])
    ∷ (Int (pos 5) ∷ Int (pos 5) ∷ [])
    ∷ []

abbrev ends : Bounds
ends = record { left_lo = 0; left_hi = 1; right_lo = 0; right_hi = 1 }

abbrev always : PTerm
always = Literal (Flag true)

-- the right rows of each left row stand by lower end, upper end and place
overlapping :
    physical_rows (Overlap ends always (Scan 0 2) (Scan 1 2)) (left ∷ right ∷ [])
    ≡ (Int (pos 1) ∷ Int (pos 3) ∷ Int (pos 2) ∷ Int (pos 2) ∷ [])
    ∷ (Int (pos 1) ∷ Int (pos 3) ∷ Int (pos 2) ∷ Int (pos 4) ∷ [])
    ∷ (Int (pos 1) ∷ Int (pos 3) ∷ Int (pos 3) ∷ Int (pos 6) ∷ [])
    ∷ (Int (pos 5) ∷ Int (pos 5) ∷ Int (pos 3) ∷ Int (pos 6) ∷ [])
    ∷ (Int (pos 5) ∷ Int (pos 5) ∷ Int (pos 5) ∷ Int (pos 5) ∷ [])
    ∷ []
overlapping = refl

-- those of a Hash stand as they are listed
equal_lower_ends :
    physical_rows (Hash ((1, 0) ∷ []) always (Scan 0 2) (Scan 1 2)) (left ∷ right ∷ [])
    ≡ (Int (pos 1) ∷ Int (pos 3) ∷ Int (pos 3) ∷ Int (pos 6) ∷ [])
    ∷ (Int (pos 5) ∷ Int (pos 5) ∷ Int (pos 5) ∷ Int (pos 5) ∷ [])
    ∷ []
equal_lower_ends = refl

typed : physical_kinds ((kind.Int ∷ kind.Int ∷ []) ∷ (kind.Int ∷ kind.Int ∷ []) ∷ []) (Overlap ends always (Scan 0 2) (Scan 1 2)) ≡ Some (kind.Int ∷ kind.Int ∷ kind.Int ∷ kind.Int ∷ [])
typed = refl

-- ends of two kinds are not compared
two_kinds : physical_kinds ((kind.Int ∷ kind.Int ∷ []) ∷ (kind.Int ∷ kind.Text ∷ []) ∷ []) (Overlap ends always (Scan 0 2) (Scan 1 2)) ≡ None
two_kinds = refl

-- the expression is evaluated on the pairs alone that meet the first test
tested_alone : physical_numbers (Hash ((0, 0) ∷ []) (Compare Less (Column 0) (Column 3)) (Scan 0 2) (Scan 1 2)) (left ∷ right ∷ []) ≡ pos 5 ∷ pos 5 ∷ []
tested_alone = refl

-- the test that the ranges of two encoded rows of one column overlap, of a row with a pair of further columns
abbrev both : PTerm
both = And (And (Compare AtMost (Column 0) (Column 3)) (Compare AtMost (Column 2) (Column 1))) (And (Compare Equal (Column 3) (Column 0)) always)

-- becomes the pair of places of its equality, and the others
split : equalities 2 (conjuncts both) ≡ (0, 1) ∷ []
split = refl

rest : condition (not_equalities 2 (conjuncts both)) ≡ And (Compare AtMost (Column 0) (Column 3)) (Compare AtMost (Column 2) (Column 1))
rest = refl

-- or the equality, beside the test of the ranges
untested : condition (not_tested 2 ends (conjuncts both)) ≡ Compare Equal (Column 3) (Column 0)
untested = refl
