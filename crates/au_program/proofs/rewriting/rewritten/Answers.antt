-- The plan of the tree is the whole plan, also with its rows in another order, and it is typed.
use Rattle.std.proofs.Common.{map}
use Rattle.au_algebra.specs.Trees.{tree}
use Rattle.au_encode.specs.Encode.{encoded_kinds}
use Rattle.au_plain.specs.Plans.{plan_tree}
use Rattle.au_typing.specs.Queries.{relations, table_kinds}
use Rattle.au_program.proofs.Operators.{typed_kinds}
use Rattle.au_program.proofs.TypedWidths.{typed_widths}
use Rattle.au_program.proofs.WholePlans.{reordered_plan, whole_plan}
use Rattle.au_program.proofs.rewriting.rewritten.Goals as goal

pub returns-clause-plan : goal.returns-clause-plan
returns-clause-plan c =
    let p = c.in_ok-planned.planned in
    let kinds = table_kinds (relations c.args.schemas.now) in
    let q = tree c.args.typed.now.query in
    reordered_plan kinds q (plan_tree p.plan) (plan_tree c.in_ok-plan.plan) c.requires
    (whole_plan kinds q (plan_tree p.plan) p.layout.columns c.requires c.in_ok-planned.ensures) c.in_ok-plan.ensures

pub returns-clause-widths : goal.returns-clause-widths
returns-clause-widths c =
    let kinds = table_kinds (relations c.args.schemas.now) in
    let k = typed_kinds kinds (tree c.args.typed.now.query) c.requires in
    let whole = returns-clause-plan c in
    typed_widths (map encoded_kinds kinds) (plan_tree c.in_ok-plan.plan) (encoded_kinds k.0) (whole.typed k.0 k.1)
