-- The column so far, with the cells of the rows that are left.
use Rattle.std.proofs.Common.{◌≡◌, ◌++◌, drop, map}
use Rattle.au_codes.specs.CellMeaning.{cell, cell_in}
use Rattle.au_vector.proofs.written.column_at.Given as goal

abbrev pub invariant-loop-row : goal.invariant-loop-row
invariant-loop-row l = l.column ++ map (λ row. cell_in (map cell row.items) l.place) (drop l.row-index l.rows) ≡ map (λ row. cell_in (map cell row.items) l.place) l.rows
