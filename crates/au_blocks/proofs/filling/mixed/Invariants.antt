use Rattle.std.proofs.Common.{◌≡◌, ◌++◌, drop}
use Rattle.au_blocks.specs.Columns.{column_cells}
use Rattle.au_blocks.proofs.filling.mixed.Given as goal

-- the cells so far stand before those of the records that are left
abbrev pub invariant-loop-record : goal.invariant-loop-record
invariant-loop-record l = l.cells.items ++ column_cells l.format l.kind l.place (drop l.record-index l.records) ≡ column_cells l.format l.kind l.place l.records
