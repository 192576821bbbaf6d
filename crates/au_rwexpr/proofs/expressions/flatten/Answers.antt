-- The columns of the whole have one list before them that is empty.
use Rattle.std.proofs.Common.{◌≡◌, ◌+◌, ◌*◌, [], rules}
use Rattle.au_expr.specs.Terms.{term}
use Rattle.au_rwexpr.specs.Nodes.{AddsColumns}
use Rattle.au_rwexpr.proofs.FlattenLaws.{three_each, kind_last}
use Rattle.au_rwexpr.proofs.expressions.flatten.Goals as goal

pub returns-clause-three : goal.returns-clause-three
returns-clause-three c =
    let columns = c.args.layout.now.columns in
    let new = c.push_columns.new.columns.items in
    let is : c.in_ok-width.width ≡ 3 * columns + 3 = search (rules, c.in_ok-width.ensures) in
    let x : AddsColumns c.in_ok-width.width (term c.args.tree.now) [] new c.in_ok-push_columns.field-0.first = search (rules, c.in_ok-push_columns.ensures) in
    three_each columns c.in_ok-width.width (term c.args.tree.now) new c.in_ok-push_columns.field-0.first is x

pub returns-clause-kind : goal.returns-clause-kind
returns-clause-kind c =
    let columns = c.args.layout.now.columns in
    let new = c.push_columns.new.columns.items in
    let is : c.in_ok-width.width ≡ 3 * columns + 3 = search (rules, c.in_ok-width.ensures) in
    let x : AddsColumns c.in_ok-width.width (term c.args.tree.now) [] new c.in_ok-push_columns.field-0.first = search (rules, c.in_ok-push_columns.ensures) in
    kind_last columns c.in_ok-width.width (term c.args.tree.now) new c.in_ok-push_columns.field-0.first is x
