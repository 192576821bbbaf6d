-- Each operator's plan gives the relation of its tree, over what its sources hold.
use Rattle.std.proofs.Common.{◌≡◌, arith, length, map, subst, sym, ◌∙◌}
use Rattle.std.proofs.lemmas.List.{length-map}
use Rattle.au_value.specs.Order.{data_kind}
use Rattle.au_expr.specs.Terms.{term}
use Rattle.au_algebra.specs.Trees.{Project, Total, tree}
use Rattle.au_plain.specs.Plans.{plan_tree}
use Rattle.au_typing.specs.Queries.{data_kinds, relations, table_kinds}
use Rattle.au_combine.specs.Gives.{Combines}
use Rattle.au_program.specs.Programs.{PlansCombined, PlansTree}
use Rattle.au_program.specs.Rules.{IsCompression}
use Rattle.au_program.specs.declared.sources.Sources.TheVariants as sources
use Rattle.au_program.proofs.FoundPairs.{pairs_planned}
use Rattle.au_program.proofs.FoundSteps.{combined_planned, found_planned, groups_planned}
use Rattle.au_program.proofs.Operators.{DistinctsBy, MultipliesBy}
use Rattle.au_program.proofs.PlannedParts.{difference_planned, distinct_planned, from_three, product_planned, project_planned, select_planned, table_planned, total_planned, union_planned}
use Rattle.au_program.proofs.PlanSteps.{grouped_typed}
use Rattle.au_program.proofs.Together.{at_equal, at_ok, from_two}
use Rattle.au_program.proofs.WholePlans.{schema_at}
use Rattle.au_program.proofs.planning.+plans.Goals as goal

pub planned-returns-in-Some : goal.planned-returns-in-Some
planned-returns-in-Some t c =
    let kinds = table_kinds (relations c.args.schemas.now) in
    let columns = c.in-Some.schema.now.columns.items in
    let counted : length (data_kinds columns) ≡ c.len.result = omega (arith, length-map columns (λ column. data_kind column.kind), c.len.ensures) in
    rw c.in-Table.is
    (from_three c.scanned_table.result _ _ _ _
    (λ p wide scan behind. table_planned c.args.rules kinds c.in-Table.place (data_kinds columns) (schema_at c.args.schemas.now c.in-Table.place c.in-Some.schema.now c.in-Some.ensures.lookup.3.0 c.in-Some.ensures.lookup.1)
    c.len.result counted c.args.sources.now c.scanned_table.new.sources (plan_tree p.plan) p.layout.columns wide scan behind)
    c.scanned_table.ensures.columns c.scanned_table.ensures.plan c.scanned_table.ensures.behind)

pub planned-returns-in_ok-of-in-Select : goal.planned-returns-in_ok-of-in-Select
planned-returns-in_ok-of-in-Select t c =
    let kinds = table_kinds (relations c.args.schemas.now) in
    let of = c.in_ok-of-in-Select.of in
    let q = tree c.in-Select.of.value in
    let old = c.args.sources.now in
    let new = c.planned.new.sources in
    let part = subst (λ m. PlansTree c.args.rules kinds (tree m) old new (plan_tree of.plan) of.layout.columns) c.deref.ensures c.in_ok-of-in-Select.ensures in
    rw c.in-Select.is
    (from_two c.select_of.result _ _ _
    (λ p wide step. select_planned c.args.rules kinds q old new (plan_tree of.plan) (plan_tree p.plan) of.layout.columns p.layout.columns part (term c.in-Select.condition) wide step)
    c.select_of.ensures.columns c.select_of.ensures.plan)

pub planned-returns-in_ok-of-in-Project : goal.planned-returns-in_ok-of-in-Project
planned-returns-in_ok-of-in-Project t c =
    let kinds = table_kinds (relations c.args.schemas.now) in
    let of = c.in_ok-of-in-Project.of in
    let q = tree c.in-Project.of.value in
    let old = c.args.sources.now in
    let new = c.planned-in-Project.new.sources in
    let part = subst (λ m. PlansTree c.args.rules kinds (tree m) old new (plan_tree of.plan) of.layout.columns) c.deref-in-Project.ensures c.in_ok-of-in-Project.ensures in
    rw c.in-Project.is
    (from_two c.project_of.result _ _ _
    (λ p wide step. subst (λ xs. PlansTree c.args.rules kinds (Project (map term xs) q) old new (plan_tree p.plan) p.layout.columns) c.as_slice.ensures.value
    (project_planned c.args.rules kinds q old new (plan_tree of.plan) (plan_tree p.plan) of.layout.columns p.layout.columns part (map term c.as_slice.result.now) (wide ∙ sym (length-map c.as_slice.result.now term)) step))
    c.project_of.ensures.columns c.project_of.ensures.plan)

pub planned-returns-in_ok-of-in-Total : goal.planned-returns-in_ok-of-in-Total
planned-returns-in_ok-of-in-Total t c =
    let kinds = table_kinds (relations c.args.schemas.now) in
    let of = c.in_ok-of-in-Total.of in
    let q = tree c.in-Total.of.value in
    let old = c.args.sources.now in
    let new = c.planned-in-Total.new.sources in
    let part = subst (λ m. PlansTree c.args.rules kinds (tree m) old new (plan_tree of.plan) of.layout.columns) c.deref-in-Total.ensures c.in_ok-of-in-Total.ensures in
    rw c.in-Total.is
    (from_two c.total_of.result _ _ _
    (λ p wide step. subst (λ xs. PlansTree c.args.rules kinds (Total xs q) old new (plan_tree p.plan) p.layout.columns) c.as_slice-in-Total.ensures.value
    (total_planned c.args.rules kinds q old new (plan_tree of.plan) (plan_tree p.plan) of.layout.columns p.layout.columns part c.as_slice-in-Total.result.now wide step))
    c.total_of.ensures.columns c.total_of.ensures.plan)

pub first_found-returns : goal.first_found-returns
first_found-returns t c =
    let kinds = table_kinds (relations c.args.schemas.now) in
    let first = c.in_ok-of.of in
    let p = c.in_ok-scan.scan in
    found_planned c.args.rules kinds (tree c.args.query.now) c.requires.typed first.1 (plan_tree first.0.plan) first.0.layout.columns c.in_ok-of.ensures
    c.args.sources.now c.scanned_step.new.sources (plan_tree p.plan) p.layout.columns c.in_ok-scan.ensures

pub deduplicated-returns : goal.deduplicated-returns
deduplicated-returns t c =
    let kinds = table_kinds (relations c.args.schemas.now) in
    let of = c.in_ok-of-2.of in
    let p = c.in_ok-rows-2.rows in
    distinct_planned c.args.rules kinds (tree c.args.of.now) c.args.sources.now c.planned.new.sources (plan_tree of.plan) (plan_tree p.plan) of.layout.columns p.layout.columns c.in_ok-of-2.ensures c.in_ok-rows-2.ensures.columns
    (subst (λ points. DistinctsBy points of.layout.columns (plan_tree of.plan) (plan_tree p.plan)) (sym c.if-rules.false) c.in_ok-rows-2.ensures.plan)

pub deduplicated-returns-then-rules : goal.deduplicated-returns-then-rules
deduplicated-returns-then-rules t c =
    let kinds = table_kinds (relations c.args.schemas.now) in
    let of = c.in_ok-of.of in
    let p = c.in_ok-rows.rows in
    distinct_planned c.args.rules kinds (tree c.args.of.now) c.args.sources.now c.first_found.new.sources (plan_tree of.plan) (plan_tree p.plan) of.layout.columns p.layout.columns c.in_ok-of.ensures c.in_ok-rows.ensures.columns
    (subst (λ points. DistinctsBy points of.layout.columns (plan_tree of.plan) (plan_tree p.plan)) (sym c.if-rules.true) c.in_ok-rows.ensures.plan)

pub grouped-returns : goal.grouped-returns
grouped-returns t c =
    let kinds = table_kinds (relations c.args.schemas.now) in
    let q = tree c.args.of.now in
    let of = c.in_ok-of.of in
    let own = c.in_ok-of.own in
    let p = c.in_ok-scan.scan in
    let first = at_ok c.first_found-first.result of c.in_ok-of.ensures.values.0 (λ x. PlansTree c.args.rules kinds q sources.Nothing c.first_found-first.new.sources (plan_tree x.plan) x.layout.columns) c.first_found-first.ensures in
    let plans = subst (λ s. PlansTree c.args.rules kinds q sources.Nothing s (plan_tree of.plan) of.layout.columns) (sym c.in_ok-of.ensures.values.1) first in
    groups_planned c.args.rules kinds c.args.keys c.args.aggs.now q (grouped_typed kinds c.args.keys c.args.aggs.now q c.requires.typed) c.requires.typed own (plan_tree of.plan) of.layout.columns plans
    c.args.sources.now c.scanned_groups.new.sources (plan_tree p.plan) p.layout.columns c.in_ok-scan.ensures

pub united-returns : goal.united-returns
united-returns t c =
    let kinds = table_kinds (relations c.args.schemas.now) in
    let a = tree c.args.left.now in
    let b = tree c.args.right.now in
    let left = c.in_ok-right.left in
    let right = c.in_ok-right.right in
    let old = c.args.sources.now in
    let mid = c.planned.new.sources in
    let new = c.planned-second.new.sources in
    let p = c.in_ok-rows.rows in
    let of_left = at_equal c.in_ok-first.first left (sym c.in_ok-right.ensures.values.1) (λ x. PlansTree c.args.rules kinds a old mid (plan_tree x.plan) x.layout.columns) c.in_ok-first.ensures in
    let of_right = at_ok c.planned-second.result right c.in_ok-right.ensures.values.0 (λ x. PlansTree c.args.rules kinds b mid new (plan_tree x.plan) x.layout.columns) c.planned-second.ensures in
    union_planned c.args.rules kinds a b old mid new (plan_tree left.plan) (plan_tree right.plan) (plan_tree p.plan) left.layout.columns right.layout.columns p.layout.columns
    of_right of_left c.in_ok-rows.ensures.columns c.in_ok-rows.ensures.plan

pub lessened-returns : goal.lessened-returns
lessened-returns t c =
    let kinds = table_kinds (relations c.args.schemas.now) in
    let a = tree c.args.left.now in
    let b = tree c.args.right.now in
    let left = c.in_ok-right.left in
    let right = c.in_ok-right.right in
    let old = c.args.sources.now in
    let mid = c.first_combined.new.sources in
    let new = c.planned-second.new.sources in
    let p = c.in_ok-rows.rows in
    let of_left = at_equal c.in_ok-first.first left (sym c.in_ok-right.ensures.values.1) (λ x. PlansCombined c.args.rules kinds a old mid (plan_tree x.plan) x.layout.columns) c.in_ok-first.ensures in
    let of_right = at_ok c.planned-second.result right c.in_ok-right.ensures.values.0 (λ x. PlansTree c.args.rules kinds b mid new (plan_tree x.plan) x.layout.columns) c.planned-second.ensures in
    difference_planned c.args.rules kinds a b old mid new (plan_tree left.plan) (plan_tree right.plan) (plan_tree p.plan) left.layout.columns right.layout.columns p.layout.columns
    of_right of_left c.in_ok-rows.ensures.columns c.in_ok-rows.ensures.plan

pub paired-returns-in_ok-pairs-in-None : goal.paired-returns-in_ok-pairs-in-None
paired-returns-in_ok-pairs-in-None t c =
    let kinds = table_kinds (relations c.args.schemas.now) in
    let a = tree c.args.left.now in
    let b = tree c.args.right.now in
    let left = c.in_ok-right-in-None.left in
    let right = c.in_ok-right-in-None.right in
    let old = c.args.sources.now in
    let mid = c.planned.new.sources in
    let new = c.planned-second.new.sources in
    let p = c.in_ok-pairs-in-None.pairs in
    let of_left = at_equal c.in_ok-first-in-None.first left (sym c.in_ok-right-in-None.ensures.values.1) (λ x. PlansTree c.args.rules kinds a old mid (plan_tree x.plan) x.layout.columns) c.in_ok-first-in-None.ensures in
    let of_right = at_ok c.planned-second.result right c.in_ok-right-in-None.ensures.values.0 (λ x. PlansTree c.args.rules kinds b mid new (plan_tree x.plan) x.layout.columns) c.planned-second.ensures in
    product_planned c.args.rules kinds a b old mid new (plan_tree left.plan) (plan_tree right.plan) (plan_tree p.plan) left.layout.columns right.layout.columns p.layout.columns
    of_right of_left c.in_ok-pairs-in-None.ensures.columns
    (subst (λ how. MultipliesBy how left.layout.columns right.layout.columns (plan_tree left.plan) (plan_tree right.plan) (plan_tree p.plan)) (sym c.in-None.is) c.in_ok-pairs-in-None.ensures.plan)

pub paired-returns-in_ok-pairs-in-Some : goal.paired-returns-in_ok-pairs-in-Some
paired-returns-in_ok-pairs-in-Some t c =
    let kinds = table_kinds (relations c.args.schemas.now) in
    let a = tree c.args.left.now in
    let b = tree c.args.right.now in
    let left = c.in_ok-right-in-Some.left in
    let right = c.in_ok-right-in-Some.right in
    let p = c.in_ok-pairs-in-Some.pairs in
    let of_left = at_equal c.in_ok-first-in-Some.first left (sym c.in_ok-right-in-Some.ensures.values.1) (λ x. PlansTree c.args.rules kinds a sources.Nothing x.1 (plan_tree x.0.plan) x.0.layout.columns) c.in_ok-first-in-Some.ensures in
    let of_right = at_ok c.apart-second.result right c.in_ok-right-in-Some.ensures.values.0 (λ x. PlansTree c.args.rules kinds b sources.Nothing x.1 (plan_tree x.0.plan) x.0.layout.columns) c.apart-second.ensures in
    pairs_planned c.args.rules kinds c.in-Some.size c.in-Some.is (subst IsCompression c.in-Some.is c.requires.compression) a b c.requires.typed left.1 right.1 c.args.sources.now c.scanned_pairs.new.sources
    (plan_tree left.0.plan) (plan_tree right.0.plan) (plan_tree p.plan) left.0.layout.columns right.0.layout.columns p.layout.columns of_left of_right c.in_ok-pairs-in-Some.ensures

pub first_combined-returns : goal.first_combined-returns
first_combined-returns t c =
    let kinds = table_kinds (relations c.args.schemas.now) in
    let q = tree c.args.query.now in
    let first = c.in_ok-first.first in
    let combined = c.in_ok-combined.combined in
    let own = c.in_ok-combined.own in
    let p = c.in_ok-scan.scan in
    let wide = at_ok c.combined_of-made.result combined c.in_ok-combined.ensures.values.0 (λ x. x.layout.columns ≡ first.0.layout.columns) c.combined_of-made.ensures.columns in
    let joined = at_ok c.combined_of-made.result combined c.in_ok-combined.ensures.values.0 (λ x. Combines first.0.layout.columns (plan_tree first.0.plan) (plan_tree x.plan)) c.combined_of-made.ensures.plan in
    let plans = at_equal first.1 own (sym c.in_ok-combined.ensures.values.1) (λ s. PlansTree c.args.rules kinds q sources.Nothing s (plan_tree first.0.plan) first.0.layout.columns) c.in_ok-first.ensures in
    combined_planned c.args.rules kinds q c.requires.typed own (plan_tree first.0.plan) first.0.layout.columns plans (plan_tree combined.plan) combined.layout.columns wide joined
    c.args.sources.now c.scanned_step.new.sources (plan_tree p.plan) p.layout.columns c.in_ok-scan.ensures
