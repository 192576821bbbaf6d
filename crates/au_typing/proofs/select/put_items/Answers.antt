-- One item more, or a fault of it.
use Rattle.std.proofs.Common.{◌<◌, length, rules}
use Rattle.au_typing.specs.Results.{scope_view, setting_view}
use Rattle.au_typing.proofs.Clauses.{item_refuses, items_more}
use Rattle.au_typing.proofs.select.put_items.Goals as goal

pub returns-in-Err-clause-fault : goal.returns-in-Err-clause-fault
returns-in-Err-clause-fault c =
    let within : c.loop-item.item-index < length c.args.items.now = search (rules, c.loop-item-test.true) in
    item_refuses (scope_view c.args.scope.now) (setting_view c.args.setting.now) c.args.items.now c.loop-item.item-index c.item-item.result c.in-Err.fault
    within (search (rules, c.item-item.is)) c.in-Err.ensures.fault

pub loop-item-preserved : goal.loop-item-preserved
loop-item-preserved c =
    let within : c.loop-item.item-index < length c.args.items.now = search (rules, c.loop-item-test.true) in
    items_more (scope_view c.args.scope.now) (setting_view c.args.setting.now) c.args.items.now c.loop-item.item-index c.item-item.result
    c.args.gathered.now c.loop-item.gathered c.put_item.new.gathered c.args.outputs.now c.loop-item.outputs c.put_item.new.outputs
    within (search (rules, c.item-item.is)) c.loop-item.invariant c.in_default.ensures.puts c.in_default.ensures.gathers c.in_default.ensures.sound
