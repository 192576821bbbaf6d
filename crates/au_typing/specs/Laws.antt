-- What a statement in which nothing is wrong promises of its tree.
-- The tree is typed over the values of the tables' columns, with exactly the kinds of the values of those that are named.
use Rattle.std.specs.Prelude.{◌≡◌, List, map, Some}
use Rattle.au_value.specs.Order.{data_kind}
use Rattle.au_algebra.specs.Typing.{kinds_of}
use Rattle.au_parse.specs.Tree.{QueryTree}
use Rattle.au_parse.specs.Whole.{WholeQuery}
use Rattle.au_typing.specs.Queries.{Relation, IsWellTyped, resolved_tree, resolved_kinds, table_kinds}

abbrev pub TreeIsTyped : Type 0
TreeIsTyped =
    (tables : List Relation) (statement : QueryTree) →
    WholeQuery statement → IsWellTyped tables statement → kinds_of (table_kinds tables) (resolved_tree tables statement) ≡ Some (map data_kind (resolved_kinds tables statement))
