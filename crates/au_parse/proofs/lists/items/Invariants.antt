use Rattle.std.proofs.Common.{map}
use Rattle.std.specs.Prelude.{option_map}
use Rattle.au_parse.specs.Queries.{item_tree}
use Rattle.au_parse.specs.Views.{item_view}
use Rattle.au_parse.proofs.ListPieces.{ReadSoFar, left_length}
use Rattle.au_parse.proofs.lists.items.Given as goal

-- what has been read, and what is left behind the comma
abbrev pub invariant-items : goal.invariant-items
invariant-items l = ReadSoFar item_tree l.tokens (map item_view l.items.items) (option_map (λ x. x.now) l.left)

abbrev pub decreases-items : goal.decreases-items
decreases-items l = left_length (option_map (λ x. x.now) l.left)
