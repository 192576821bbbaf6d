-- Plans that are typed over the one table of a test, of a number, a text and a flag.
use Rattle.std.specs.Prelude.{◌≡◌, List, [], ◌∷◌, Some}
use Rattle.au_value.specs.declared.kinds.Kind.{Kind}
use Rattle.au_value.specs.declared.kinds.Kind.TheVariants.{Int, Text, Flag}
use Rattle.au_plain.specs.Plans.{PlanTree}
use Rattle.au_plain.specs.PlanKinds.{plan_kinds}

abbrev pub test_table_kinds : List Kind
test_table_kinds = Int ∷ Text ∷ Flag ∷ []

-- the plan has kinds over the table
abbrev pub IsTypedPlan : PlanTree → Type 0
IsTypedPlan p = (ks : List Kind) × (plan_kinds (test_table_kinds ∷ []) p ≡ Some ks)
