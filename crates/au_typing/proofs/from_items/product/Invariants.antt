-- Those so far, and those that are left.
use Rattle.std.proofs.Common.{◌≡◌, map}
use Rattle.std.specs.Prelude.{option_map}
use Rattle.std.specs.Vec.Iter.{into_iter_items}
use Rattle.au_algebra.specs.Trees.{tree}
use Rattle.au_typing.specs.Results.{from_view}
use Rattle.au_typing.specs.Selects.{from_product}
use Rattle.au_typing.proofs.FromItems.{joined_all}
use Rattle.au_typing.proofs.from_items.product.Given as goal

abbrev pub invariant-loop-item : goal.invariant-loop-item
invariant-loop-item l = joined_all (option_map tree l.joined) (map from_view (into_iter_items l.item-iterator)) ≡ from_product (map from_view l.fn.from.items)
