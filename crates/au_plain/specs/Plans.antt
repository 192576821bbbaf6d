-- Plans without where they lie in memory,
-- and the tree of a plan.
use Rattle.std.specs.Prelude.{ℕ, List, [], ◌∷◌, map}
use Rattle.au_value.specs.declared.value.Value.{Value}
use Rattle.au_plain.specs.declared.plan.PAgg.{PAgg}
use Rattle.au_plain.specs.declared.plan.Plan.{Plan}
use Rattle.au_plain.specs.declared.plan.Plan.TheVariants as code
use Rattle.au_plain.specs.PTerms.{PTerm, pterm}

pub data PlanTree : Type 0 where
  Scan : ℕ → ℕ → PlanTree
  Rows : ℕ → List (List Value) → PlanTree
  Extend : PTerm → PlanTree → PlanTree
  Keep : List ℕ → PlanTree → PlanTree
  Filter : PTerm → PlanTree → PlanTree
  Join : PTerm → PlanTree → PlanTree → PlanTree
  Union : PlanTree → PlanTree → PlanTree
  Group : List ℕ → List PAgg → PlanTree → PlanTree

-- the tree of a plan
abbrev pub plan_tree : Plan → PlanTree
plan_tree (code.Scan t w) = Scan t w
plan_tree (code.Rows w rows) = Rows w (map (λ row. row.items) rows.items)
plan_tree (code.Extend' e p q) = Extend (pterm e) (plan_tree q)
plan_tree (code.Keep' places p q) = Keep places.items (plan_tree q)
plan_tree (code.Filter' e p q) = Filter (pterm e) (plan_tree q)
plan_tree (code.Join' e p a q b) = Join (pterm e) (plan_tree a) (plan_tree b)
plan_tree (code.Union' p a q b) = Union (plan_tree a) (plan_tree b)
plan_tree (code.Group' keys aggs p q) = Group keys.items aggs.items (plan_tree q)

-- the plan with columns added, one after the other
abbrev pub extend_all : List PTerm → PlanTree → PlanTree
extend_all [] p = p
extend_all (e ∷ es) p = extend_all es (Extend e p)
