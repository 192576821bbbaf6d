use Rattle.std.proofs.Common.{sym, ap, ◌∙◌, map, [], ◌∷◌}
use Rattle.std.proofs.lemmas.List.{map-append}
use Rattle.std.specs.Prelude.{option_map}
use Rattle.au_parse.specs.Queries.{item_tree}
use Rattle.au_parse.specs.Views.{item_view}
use Rattle.au_parse.proofs.ListPieces.{read_more, read_none, read_end}
use Rattle.au_parse.proofs.lists.items.Goals as goal

pub returns-in_default-2 : goal.returns-in_default-2
returns-in_default-2 c = read_none item_tree c.args.tokens.now (map item_view c.items.items.items) c.in-Some.rest.now c.at_comma.result.0.now (option_map (λ x. x.now) c.at_comma.result.1) (rw c.in-Some.is at c.items.invariant) c.at_comma.ensures.pieces (sym c.in_ok-item.ensures ∙ ap (option_map item_view) c.in_default-2.is)

pub items-preserved : goal.items-preserved
items-preserved c = read_more item_tree c.args.tokens.now (map item_view c.items.items.items) c.in-Some.rest.now c.at_comma.result.0.now (option_map (λ x. x.now) c.at_comma.result.1) (rw c.in-Some.is at c.items.invariant) c.at_comma.ensures.pieces (item_view c.in-Some-2.item) (map item_view c.push.new.self.items) (sym c.in_ok-item.ensures ∙ ap (option_map item_view) c.in-Some-2.is) (ap (map item_view) c.in_ok-push.ensures.items ∙ map-append item_view c.items.items.items (c.in-Some-2.item ∷ []))

pub returns : goal.returns
returns c = read_end item_tree c.args.tokens.now (map item_view c.items.items.items) (rw c.in_default.is at c.items.invariant)
