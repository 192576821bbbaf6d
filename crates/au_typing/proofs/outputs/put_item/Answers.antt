-- A fault of an item that is a term.
use Rattle.std.proofs.Common.{sym, subst}
use Rattle.std.specs.Prelude.{IfErr}
use Rattle.au_parse.specs.Views.{item_view, term_tree}
use Rattle.au_typing.specs.Items.{item_faults}
use Rattle.au_typing.specs.Results.{scope_view, setting_view}
use Rattle.au_typing.proofs.Stars.{value_refuses}
use Rattle.au_typing.proofs.outputs.put_item.Goals as goal
use Rattle.au_typing.specs.Queries.{Refuses}

pub returns-in-Value-clause-fault : goal.returns-in-Value-clause-fault
returns-in-Value-clause-fault c =
    subst (λ item. IfErr c.put_value.result (Refuses (item_faults (scope_view c.args.scope.now) (setting_view c.args.setting.now) (item_view item)))) (sym c.in-Value.is)
    (value_refuses (scope_view c.args.scope.now) (setting_view c.args.setting.now) (term_tree c.in-Value.what) c.args.gathered.now c.typed_term-found.new.gathered c.args.outputs.now c.put_value.new.outputs
    c.value_name-name.result c.typed_term-found.result c.put_value.result c.value_name-name.ensures.fault c.typed_term-found.ensures c.put_value.ensures)
