-- Each operator's plan is that of its tree.
use Rattle.std.proofs.Common.{◌≡◌, arith, length, map, subst, sym, ◌∙◌}
use Rattle.std.proofs.lemmas.List.{length-map}
use Rattle.au_value.specs.Order.{data_kind}
use Rattle.au_expr.specs.Terms.{term}
use Rattle.au_algebra.specs.Trees.{Group, Project, Total, tree}
use Rattle.au_plain.specs.Plans.{plan_tree}
use Rattle.au_typing.specs.Queries.{data_kinds, relations, table_kinds}
use Rattle.au_combine.specs.Gives.{Combines}
use Rattle.au_program.specs.Rewriting.{GivesTree}
use Rattle.au_program.proofs.Together.{at_equal, at_ok, from_two}
use Rattle.au_program.proofs.WholePlans.{difference_whole, distinct_whole, group_whole, product_whole, project_whole, scan_whole, schema_at, select_whole, total_whole, union_whole}
use Rattle.au_program.proofs.rewriting.+plan_of.Goals as goal

pub returns-in-Some : goal.returns-in-Some
returns-in-Some t c =
    let kinds = table_kinds (relations c.args.schemas.now) in
    let columns = c.in-Some.schema.now.columns.items in
    let counted : length (data_kinds columns) ≡ c.len.result = omega (arith, length-map columns (λ column. data_kind column.kind), c.len.ensures) in
    rw c.in-Table.is
    (from_two c.scan.result _ _ _
    (λ p wide is. scan_whole kinds c.in-Table.i c.len.result (data_kinds columns) (plan_tree p.plan)
    (schema_at c.args.schemas.now c.in-Table.i c.in-Some.schema.now c.in-Some.ensures.lookup.3.0 c.in-Some.ensures.lookup.1) counted is p.layout.columns wide)
    c.scan.ensures.columns c.scan.ensures.plan)

pub returns-in_ok-of-in-Select : goal.returns-in_ok-of-in-Select
returns-in_ok-of-in-Select t c =
    let of = c.in_ok-of-in-Select.of in
    let q = tree c.in-Select.of.value in
    let part = subst (λ m. GivesTree (table_kinds (relations c.args.schemas.now)) (tree m) (plan_tree of.plan) of.layout.columns) c.deref.ensures c.in_ok-of-in-Select.ensures in
    rw c.in-Select.is
    (from_two c.select_of.result _ _ _ (λ p wide step. select_whole (table_kinds (relations c.args.schemas.now)) q (plan_tree of.plan) (plan_tree p.plan) of.layout.columns p.layout.columns part (term c.in-Select.condition) wide step)
    c.select_of.ensures.columns c.select_of.ensures.plan)

pub returns-in_ok-of-in-Project : goal.returns-in_ok-of-in-Project
returns-in_ok-of-in-Project t c =
    let of = c.in_ok-of-in-Project.of in
    let q = tree c.in-Project.of.value in
    let part = subst (λ m. GivesTree (table_kinds (relations c.args.schemas.now)) (tree m) (plan_tree of.plan) of.layout.columns) c.deref-in-Project.ensures c.in_ok-of-in-Project.ensures in
    rw c.in-Project.is
    (from_two c.project_of.result _ _ _
    (λ p wide step. subst (λ xs. GivesTree (table_kinds (relations c.args.schemas.now)) (Project (map term xs) q) (plan_tree p.plan) p.layout.columns) c.as_slice.ensures.value
    (project_whole (table_kinds (relations c.args.schemas.now)) q (plan_tree of.plan) (plan_tree p.plan) of.layout.columns p.layout.columns part (map term c.as_slice.result.now) (wide ∙ sym (length-map c.as_slice.result.now term)) step))
    c.project_of.ensures.columns c.project_of.ensures.plan)

pub returns-in_ok-right-in-Product : goal.returns-in_ok-right-in-Product
returns-in_ok-right-in-Product t c =
    let first = c.in_ok-left-in-Product.left in
    let left = c.in_ok-right-in-Product.left in
    let right = c.in_ok-right-in-Product.right in
    let a = tree c.in-Product.left.value in
    let b = tree c.in-Product.right.value in
    let own_left = subst (λ m. GivesTree (table_kinds (relations c.args.schemas.now)) (tree m) (plan_tree first.plan) first.layout.columns) c.deref-in-Product.ensures c.in_ok-left-in-Product.ensures in
    let of_left = at_equal first left (sym c.in_ok-right-in-Product.ensures.values.1) (λ x. GivesTree (table_kinds (relations c.args.schemas.now)) a (plan_tree x.plan) x.layout.columns) own_left in
    let own_right = at_ok c.plan_of-second.result right c.in_ok-right-in-Product.ensures.values.0 (λ x. GivesTree (table_kinds (relations c.args.schemas.now)) (tree c.deref-in-Product-2.result.now) (plan_tree x.plan) x.layout.columns) c.plan_of-second.ensures in
    let of_right = subst (λ m. GivesTree (table_kinds (relations c.args.schemas.now)) (tree m) (plan_tree right.plan) right.layout.columns) c.deref-in-Product-2.ensures own_right in
    rw c.in-Product.is
    (from_two c.product_of.result _ _ _ (λ p wide step. product_whole (table_kinds (relations c.args.schemas.now)) a b (plan_tree left.plan) (plan_tree right.plan) (plan_tree p.plan) left.layout.columns right.layout.columns p.layout.columns of_right of_left wide step)
    c.product_of.ensures.columns c.product_of.ensures.plan)

pub returns-in_ok-right-in-Union : goal.returns-in_ok-right-in-Union
returns-in_ok-right-in-Union t c =
    let first = c.in_ok-left-in-Union.left in
    let left = c.in_ok-right-in-Union.left in
    let right = c.in_ok-right-in-Union.right in
    let a = tree c.in-Union.left.value in
    let b = tree c.in-Union.right.value in
    let own_left = subst (λ m. GivesTree (table_kinds (relations c.args.schemas.now)) (tree m) (plan_tree first.plan) first.layout.columns) c.deref-in-Union.ensures c.in_ok-left-in-Union.ensures in
    let of_left = at_equal first left (sym c.in_ok-right-in-Union.ensures.values.1) (λ x. GivesTree (table_kinds (relations c.args.schemas.now)) a (plan_tree x.plan) x.layout.columns) own_left in
    let own_right = at_ok c.plan_of-second-in-Union.result right c.in_ok-right-in-Union.ensures.values.0 (λ x. GivesTree (table_kinds (relations c.args.schemas.now)) (tree c.deref-in-Union-2.result.now) (plan_tree x.plan) x.layout.columns) c.plan_of-second-in-Union.ensures in
    let of_right = subst (λ m. GivesTree (table_kinds (relations c.args.schemas.now)) (tree m) (plan_tree right.plan) right.layout.columns) c.deref-in-Union-2.ensures own_right in
    rw c.in-Union.is
    (from_two c.union_of.result _ _ _ (λ p wide step. union_whole (table_kinds (relations c.args.schemas.now)) a b (plan_tree left.plan) (plan_tree right.plan) (plan_tree p.plan) left.layout.columns right.layout.columns p.layout.columns of_right of_left wide step)
    c.union_of.ensures.columns c.union_of.ensures.plan)

pub returns-in_ok-right-in-Difference : goal.returns-in_ok-right-in-Difference
returns-in_ok-right-in-Difference t c =
    let kinds = table_kinds (relations c.args.schemas.now) in
    let of = c.in_ok-left-in-Difference.left in
    let first = c.in_ok-left-in-Difference-2.left in
    let left = c.in_ok-right-in-Difference.left in
    let right = c.in_ok-right-in-Difference.right in
    let a = tree c.in-Difference.left.value in
    let b = tree c.in-Difference.right.value in
    let is = sym c.in_ok-right-in-Difference.ensures.values.1 in
    let of_left = subst (λ m. GivesTree kinds (tree m) (plan_tree of.plan) of.layout.columns) c.deref-in-Difference.ensures c.in_ok-left-in-Difference.ensures in
    let wide_left = at_equal first left is (λ x. x.layout.columns ≡ of.layout.columns) c.in_ok-left-in-Difference-2.ensures.columns in
    let combines = at_equal first left is (λ x. Combines of.layout.columns (plan_tree of.plan) (plan_tree x.plan)) c.in_ok-left-in-Difference-2.ensures.plan in
    let own_right = at_ok c.plan_of-second-in-Difference.result right c.in_ok-right-in-Difference.ensures.values.0 (λ x. GivesTree kinds (tree c.deref-in-Difference-2.result.now) (plan_tree x.plan) x.layout.columns) c.plan_of-second-in-Difference.ensures in
    let of_right = subst (λ m. GivesTree kinds (tree m) (plan_tree right.plan) right.layout.columns) c.deref-in-Difference-2.ensures own_right in
    rw c.in-Difference.is
    (from_two c.difference_of.result _ _ _
    (λ p wide step. difference_whole kinds a b (plan_tree left.plan) (plan_tree right.plan) (plan_tree p.plan) left.layout.columns right.layout.columns p.layout.columns of_right
    (plan_tree of.plan) of.layout.columns of_left wide_left combines wide step)
    c.difference_of.ensures.columns c.difference_of.ensures.plan)

pub returns-in_ok-of-in-Distinct : goal.returns-in_ok-of-in-Distinct
returns-in_ok-of-in-Distinct t c =
    let of = c.in_ok-of-in-Distinct.of in
    let q = tree c.in-Distinct.of.value in
    let part = subst (λ m. GivesTree (table_kinds (relations c.args.schemas.now)) (tree m) (plan_tree of.plan) of.layout.columns) c.deref-in-Distinct.ensures c.in_ok-of-in-Distinct.ensures in
    rw c.in-Distinct.is
    (from_two c.distinct_of.result _ _ _ (λ p wide step. distinct_whole (table_kinds (relations c.args.schemas.now)) q (plan_tree of.plan) (plan_tree p.plan) of.layout.columns p.layout.columns part wide step)
    c.distinct_of.ensures.columns c.distinct_of.ensures.plan)

pub returns-in_ok-of-in-Group : goal.returns-in_ok-of-in-Group
returns-in_ok-of-in-Group t c =
    let of = c.in_ok-of-in-Group.of in
    let q = tree c.in-Group.of.value in
    let part = subst (λ m. GivesTree (table_kinds (relations c.args.schemas.now)) (tree m) (plan_tree of.plan) of.layout.columns) c.deref-in-Group.ensures c.in_ok-of-in-Group.ensures in
    rw c.in-Group.is
    (from_two c.group_of.result _ _ _
    (λ p wide step. subst (λ xs. GivesTree (table_kinds (relations c.args.schemas.now)) (Group c.in-Group.keys xs q) (plan_tree p.plan) p.layout.columns) c.as_slice-in-Group.ensures.value
    (group_whole (table_kinds (relations c.args.schemas.now)) q (plan_tree of.plan) (plan_tree p.plan) of.layout.columns p.layout.columns part c.in-Group.keys c.as_slice-in-Group.result.now wide step))
    c.group_of.ensures.columns c.group_of.ensures.plan)

pub returns-in_ok-of-in-Total : goal.returns-in_ok-of-in-Total
returns-in_ok-of-in-Total t c =
    let of = c.in_ok-of-in-Total.of in
    let q = tree c.in-Total.of.value in
    let part = subst (λ m. GivesTree (table_kinds (relations c.args.schemas.now)) (tree m) (plan_tree of.plan) of.layout.columns) c.deref-in-Total.ensures c.in_ok-of-in-Total.ensures in
    rw c.in-Total.is
    (from_two c.total_of.result _ _ _
    (λ p wide step. subst (λ xs. GivesTree (table_kinds (relations c.args.schemas.now)) (Total xs q) (plan_tree p.plan) p.layout.columns) c.as_slice-in-Total.ensures.value
    (total_whole (table_kinds (relations c.args.schemas.now)) q (plan_tree of.plan) (plan_tree p.plan) of.layout.columns p.layout.columns part c.as_slice-in-Total.result.now wide step))
    c.total_of.ensures.columns c.total_of.ensures.plan)
