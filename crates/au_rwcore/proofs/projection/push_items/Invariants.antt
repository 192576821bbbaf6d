-- The columns and places so far, with those of the items that are left, are those of all.
use Rattle.std.proofs.Common.{◌≡◌, ◌++◌, ◌+◌, drop, length, map}
use Rattle.au_expr.specs.Terms.{term}
use Rattle.au_plain.specs.PTerms.{pterm}
use Rattle.au_rwexpr.specs.Flatten.{flatten_items, item_places}
use Rattle.au_rwcore.proofs.projection.push_items.Given as goal

abbrev pub invariant-loop-item : goal.invariant-loop-item
invariant-loop-item l = record {
  columns : map pterm l.columns.items ++ flatten_items (l.width + length l.columns.items) (map term (drop l.item-index l.items)) ≡ map pterm l.fn.columns.items ++ flatten_items (l.width + length l.fn.columns.items) (map term l.items);
  places : l.places.items ++ item_places (l.width + length l.columns.items) (map term (drop l.item-index l.items)) ≡ l.fn.places.items ++ item_places (l.width + length l.fn.columns.items) (map term l.items);
}
