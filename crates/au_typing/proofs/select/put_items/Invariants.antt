-- The items so far.
use Rattle.std.proofs.Common.{map, take}
use Rattle.au_parse.specs.Views.{item_view}
use Rattle.au_typing.specs.Results.{ItemsFound, scope_view, setting_view}
use Rattle.au_typing.proofs.select.put_items.Given as goal

abbrev pub invariant-loop-item : goal.invariant-loop-item
invariant-loop-item l =
    ItemsFound (scope_view l.scope) (setting_view l.setting) (map item_view (take l.item-index l.items)) l.initial.gathered l.gathered l.initial.outputs l.outputs
