-- One item more.
use Rattle.std.proofs.Common.{◌≡◌, ◌+◌, ◌++◌, ◌∙◌, ◌∷◌, sym, ap, drop, length, map}
use Rattle.au_expr.specs.Terms.{term}
use Rattle.au_plain.specs.PTerms.{pterm}
use Rattle.au_rwexpr.specs.Flatten.{flatten_items, item_places}
use Rattle.au_rwcore.proofs.ItemSteps.{split_at, columns_step, places_step}
use Rattle.au_rwcore.proofs.projection.push_items.Goals as goal

pub loop-item-preserved : goal.loop-item-preserved
loop-item-preserved c =
    let w = c.args.width in
    let i = c.loop-item.item-index in
    let items = c.args.items.now in
    let item = c.item-item.result in
    let rest = map term (drop (i + 1) items) in
    let old = c.loop-item.columns.items in
    let new = c.push_columns.new.columns.items in
    let at = c.in_ok-own.own.first in
    let here : term item ∷ rest ≡ map term (drop i items) = ap (map term) (sym (split_at items i item c.loop-item-test.true c.item-item.is)) in
    record {
      columns =
          columns_step w (term item) rest old new at c.in_ok-own.ensures
          ∙ ap (λ es. map pterm old ++ flatten_items (w + length old) es) here
          ∙ c.loop-item.invariant.columns;
      places =
          (λ j. c.in_ok-push_three.ensures j ++ item_places (w + length new) rest)
          ∙ places_step w (term item) rest old new at c.in_ok-own.ensures c.loop-item.places.items
          ∙ ap (λ es. c.loop-item.places.items ++ item_places (w + length old) es) here
          ∙ c.loop-item.invariant.places;
    }
