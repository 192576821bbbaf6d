-- Each operator's plan gives the rows of its tree.
use Rattle.std.proofs.Common.{◌≡◌, arith, length, map, subst, sym, ◌∙◌}
use Rattle.std.proofs.lemmas.List.{length-map}
use Rattle.au_value.specs.Order.{data_kind}
use Rattle.au_expr.specs.Terms.{term}
use Rattle.au_algebra.specs.Trees.{Group, Project, Total, tree}
use Rattle.au_plain.specs.Plans.{plan_tree}
use Rattle.au_typing.specs.Queries.{data_kinds, relations, table_kinds}
use Rattle.au_program.specs.CountedPlans.{GivesCounted}
use Rattle.au_program.proofs.CountedSteps.{difference_counts, distinct_counts, group_counts, product_counts, project_counts, scan_counts, select_counts, total_counts, union_counts}
use Rattle.au_program.proofs.Together.{at_equal, at_ok, from_two}
use Rattle.au_program.proofs.WholePlans.{schema_at}
use Rattle.au_program.proofs.counted.+counted_plan.Goals as goal

pub returns-in-Some : goal.returns-in-Some
returns-in-Some t c =
    let k = c.args.counts in
    let kinds = table_kinds (relations c.args.schemas.now) in
    let columns = c.in-Some.schema.now.columns.items in
    let own = data_kinds columns in
    let counted : length own ≡ c.len.result = omega (arith, length-map columns (λ column. data_kind column.kind), c.len.ensures) in
    rw c.in-Table.is
    (from_two c.scan_of.result _ _ _
    (λ p wide is. scan_counts k kinds c.in-Table.i c.len.result own (plan_tree p.plan)
    (schema_at c.args.schemas.now c.in-Table.i c.in-Some.schema.now c.in-Some.ensures.lookup.3.0 c.in-Some.ensures.lookup.1) counted is p.columns wide)
    c.scan_of.ensures.columns c.scan_of.ensures.plan)

pub returns-in_ok-of-in-Select : goal.returns-in_ok-of-in-Select
returns-in_ok-of-in-Select t c =
    let k = c.args.counts in
    let kinds = table_kinds (relations c.args.schemas.now) in
    let of = c.in_ok-of-in-Select.of in
    let q = tree c.in-Select.of.value in
    let part = subst (λ m. GivesCounted k kinds (tree m) (plan_tree of.plan) of.columns) c.deref.ensures c.in_ok-of-in-Select.ensures in
    rw c.in-Select.is
    (from_two c.select_of.result _ _ _
    (λ p wide step. select_counts k kinds q (plan_tree of.plan) (plan_tree p.plan) of.columns p.columns part (term c.in-Select.condition) wide step)
    c.select_of.ensures.columns c.select_of.ensures.plan)

pub returns-in_ok-of-in-Project : goal.returns-in_ok-of-in-Project
returns-in_ok-of-in-Project t c =
    let k = c.args.counts in
    let kinds = table_kinds (relations c.args.schemas.now) in
    let of = c.in_ok-of-in-Project.of in
    let q = tree c.in-Project.of.value in
    let part = subst (λ m. GivesCounted k kinds (tree m) (plan_tree of.plan) of.columns) c.deref-in-Project.ensures c.in_ok-of-in-Project.ensures in
    rw c.in-Project.is
    (from_two c.project_of.result _ _ _
    (λ p wide step. subst (λ xs. GivesCounted k kinds (Project (map term xs) q) (plan_tree p.plan) p.columns) c.as_slice.ensures.value
    (project_counts k kinds q (plan_tree of.plan) (plan_tree p.plan) of.columns p.columns part (map term c.as_slice.result.now) (wide ∙ sym (length-map c.as_slice.result.now term)) step))
    c.project_of.ensures.columns c.project_of.ensures.plan)

pub returns-in_ok-right-in-Product : goal.returns-in_ok-right-in-Product
returns-in_ok-right-in-Product t c =
    let k = c.args.counts in
    let kinds = table_kinds (relations c.args.schemas.now) in
    let first = c.in_ok-left-in-Product.left in
    let left = c.in_ok-right-in-Product.left in
    let right = c.in_ok-right-in-Product.right in
    let a = tree c.in-Product.left.value in
    let b = tree c.in-Product.right.value in
    let own_left = subst (λ m. GivesCounted k kinds (tree m) (plan_tree first.plan) first.columns) c.deref-in-Product.ensures c.in_ok-left-in-Product.ensures in
    let of_left = at_equal first left (sym c.in_ok-right-in-Product.ensures.values.1) (λ x. GivesCounted k kinds a (plan_tree x.plan) x.columns) own_left in
    let own_right = at_ok c.counted_plan-second.result right c.in_ok-right-in-Product.ensures.values.0 (λ x. GivesCounted k kinds (tree c.deref-in-Product-2.result.now) (plan_tree x.plan) x.columns) c.counted_plan-second.ensures in
    let of_right = subst (λ m. GivesCounted k kinds (tree m) (plan_tree right.plan) right.columns) c.deref-in-Product-2.ensures own_right in
    rw c.in-Product.is
    (from_two c.product_of.result _ _ _ (λ p wide step. product_counts k kinds a b (plan_tree left.plan) (plan_tree right.plan) (plan_tree p.plan) left.columns right.columns p.columns of_left of_right wide step)
    c.product_of.ensures.columns c.product_of.ensures.plan)

pub returns-in_ok-right-in-Union : goal.returns-in_ok-right-in-Union
returns-in_ok-right-in-Union t c =
    let k = c.args.counts in
    let kinds = table_kinds (relations c.args.schemas.now) in
    let first = c.in_ok-left-in-Union.left in
    let left = c.in_ok-right-in-Union.left in
    let right = c.in_ok-right-in-Union.right in
    let a = tree c.in-Union.left.value in
    let b = tree c.in-Union.right.value in
    let own_left = subst (λ m. GivesCounted k kinds (tree m) (plan_tree first.plan) first.columns) c.deref-in-Union.ensures c.in_ok-left-in-Union.ensures in
    let of_left = at_equal first left (sym c.in_ok-right-in-Union.ensures.values.1) (λ x. GivesCounted k kinds a (plan_tree x.plan) x.columns) own_left in
    let own_right = at_ok c.counted_plan-second-in-Union.result right c.in_ok-right-in-Union.ensures.values.0 (λ x. GivesCounted k kinds (tree c.deref-in-Union-2.result.now) (plan_tree x.plan) x.columns) c.counted_plan-second-in-Union.ensures in
    let of_right = subst (λ m. GivesCounted k kinds (tree m) (plan_tree right.plan) right.columns) c.deref-in-Union-2.ensures own_right in
    rw c.in-Union.is
    (from_two c.union_of.result _ _ _ (λ p wide step. union_counts k kinds a b (plan_tree left.plan) (plan_tree right.plan) (plan_tree p.plan) left.columns right.columns p.columns of_left of_right wide step)
    c.union_of.ensures.columns c.union_of.ensures.plan)

pub returns-in_ok-right-in-Difference : goal.returns-in_ok-right-in-Difference
returns-in_ok-right-in-Difference t c =
    let k = c.args.counts in
    let kinds = table_kinds (relations c.args.schemas.now) in
    let first = c.in_ok-left-in-Difference.left in
    let left = c.in_ok-right-in-Difference.left in
    let right = c.in_ok-right-in-Difference.right in
    let a = tree c.in-Difference.left.value in
    let b = tree c.in-Difference.right.value in
    let own_left = subst (λ m. GivesCounted k kinds (tree m) (plan_tree first.plan) first.columns) c.deref-in-Difference.ensures c.in_ok-left-in-Difference.ensures in
    let of_left = at_equal first left (sym c.in_ok-right-in-Difference.ensures.values.1) (λ x. GivesCounted k kinds a (plan_tree x.plan) x.columns) own_left in
    let own_right = at_ok c.counted_plan-second-in-Difference.result right c.in_ok-right-in-Difference.ensures.values.0 (λ x. GivesCounted k kinds (tree c.deref-in-Difference-2.result.now) (plan_tree x.plan) x.columns) c.counted_plan-second-in-Difference.ensures in
    let of_right = subst (λ m. GivesCounted k kinds (tree m) (plan_tree right.plan) right.columns) c.deref-in-Difference-2.ensures own_right in
    rw c.in-Difference.is
    (from_two c.difference_of.result _ _ _ (λ p wide step. difference_counts k kinds a b (plan_tree left.plan) (plan_tree right.plan) (plan_tree p.plan) left.columns right.columns p.columns of_left of_right wide step)
    c.difference_of.ensures.columns c.difference_of.ensures.plan)

pub returns-in_ok-of-in-Distinct : goal.returns-in_ok-of-in-Distinct
returns-in_ok-of-in-Distinct t c =
    let k = c.args.counts in
    let kinds = table_kinds (relations c.args.schemas.now) in
    let of = c.in_ok-of-in-Distinct.of in
    let q = tree c.in-Distinct.of.value in
    let part = subst (λ m. GivesCounted k kinds (tree m) (plan_tree of.plan) of.columns) c.deref-in-Distinct.ensures c.in_ok-of-in-Distinct.ensures in
    rw c.in-Distinct.is
    (from_two c.distinct_of.result _ _ _
    (λ p wide step. distinct_counts k kinds q (plan_tree of.plan) (plan_tree p.plan) of.columns p.columns part wide step)
    c.distinct_of.ensures.columns c.distinct_of.ensures.plan)

pub returns-in_ok-of-in-Group : goal.returns-in_ok-of-in-Group
returns-in_ok-of-in-Group t c =
    let k = c.args.counts in
    let kinds = table_kinds (relations c.args.schemas.now) in
    let of = c.in_ok-of-in-Group.of in
    let q = tree c.in-Group.of.value in
    let part = subst (λ m. GivesCounted k kinds (tree m) (plan_tree of.plan) of.columns) c.deref-in-Group.ensures c.in_ok-of-in-Group.ensures in
    rw c.in-Group.is
    (from_two c.group_of.result _ _ _
    (λ p wide step. subst (λ xs. GivesCounted k kinds (Group c.in-Group.keys xs q) (plan_tree p.plan) p.columns) c.as_slice-in-Group.ensures.value
    (group_counts k kinds q (plan_tree of.plan) (plan_tree p.plan) of.columns p.columns part c.in-Group.keys c.as_slice-in-Group.result.now wide step))
    c.group_of.ensures.columns c.group_of.ensures.plan)

pub returns-in_ok-of-in-Total : goal.returns-in_ok-of-in-Total
returns-in_ok-of-in-Total t c =
    let k = c.args.counts in
    let kinds = table_kinds (relations c.args.schemas.now) in
    let of = c.in_ok-of-in-Total.of in
    let q = tree c.in-Total.of.value in
    let part = subst (λ m. GivesCounted k kinds (tree m) (plan_tree of.plan) of.columns) c.deref-in-Total.ensures c.in_ok-of-in-Total.ensures in
    rw c.in-Total.is
    (from_two c.total_of.result _ _ _
    (λ p wide step. subst (λ xs. GivesCounted k kinds (Total xs q) (plan_tree p.plan) p.columns) c.as_slice-in-Total.ensures.value
    (total_counts k kinds q (plan_tree of.plan) (plan_tree p.plan) of.columns p.columns part c.as_slice-in-Total.result.now wide step))
    c.total_of.ensures.columns c.total_of.ensures.plan)
