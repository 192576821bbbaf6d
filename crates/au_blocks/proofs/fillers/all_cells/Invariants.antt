use Rattle.std.proofs.Common.{◌≡◌, ◌++◌, map}
use Rattle.std.specs.Vec.Iter.{into_iter_items}
use Rattle.au_blocks.proofs.fillers.all_cells.Given as goal

-- the cells so far stand before those of the columns that are left
abbrev pub invariant-loop-column : goal.invariant-loop-column
invariant-loop-column l = l.cells.items ++ map (λ c. c.cells) (into_iter_items l.column-iterator) ≡ map (λ c. c.cells) l.fn.columns.items
