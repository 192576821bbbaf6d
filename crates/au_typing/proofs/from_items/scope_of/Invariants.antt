-- The names and the columns so far.
use Rattle.std.proofs.Common.{◌≡◌, map, take}
use Rattle.std.specs.Prelude.{flat_map}
use Rattle.au_typing.specs.Results.{from_view}
use Rattle.au_typing.specs.Selects.{FromItem, fields_of}
use Rattle.au_typing.proofs.from_items.scope_of.Given as goal

abbrev pub invariant-loop-item : goal.invariant-loop-item
invariant-loop-item l =
    (l.owners.items ≡ map (λ (item : FromItem). item.name) (map from_view (take l.item-index l.from))) × (l.fields.items ≡ flat_map fields_of (map from_view (take l.item-index l.from)))
