use Rattle.std.specs.Prelude.{option_map}
use Rattle.au_parse.specs.Expressions.{column_of}
use Rattle.au_parse.proofs.ListPieces.{ReadSoFar, left_length}
use Rattle.au_parse.proofs.lists.columns.Given as goal

-- what has been read, and what is left behind the comma
abbrev pub invariant-keys : goal.invariant-keys
invariant-keys l = ReadSoFar column_of l.tokens l.keys.items (option_map (λ x. x.now) l.left)

abbrev pub decreases-keys : goal.decreases-keys
decreases-keys l = left_length (option_map (λ x. x.now) l.left)
