-- Those so far, and those that are left.
use Rattle.std.proofs.Common.{◌≡◌, ◌++◌, map}
use Rattle.std.specs.Vec.Iter.{into_iter_items}
use Rattle.au_blocks.specs.declared.column.Column.{Column}
use Rattle.au_typing.specs.Queries.{kinds_of_columns}
use Rattle.au_typing.proofs.typed.names_and_kinds.Given as goal

abbrev pub invariant-loop-column : goal.invariant-loop-column
invariant-loop-column l =
    (l.names.items ++ map (λ (c : Column). c.name) (into_iter_items l.column-iterator) ≡ map (λ (c : Column). c.name) l.fn.columns.items)
    × (l.kinds.items ++ kinds_of_columns (into_iter_items l.column-iterator) ≡ kinds_of_columns l.fn.columns.items)
