-- The rows so far are the fronts of all.
use Rattle.std.proofs.Common.{◌≡◌, map, take}
use Rattle.au_vector.proofs.WrittenCells.{cells_of}
use Rattle.au_vector.proofs.written.written.Given as goal

abbrev pub invariant-loop-place : goal.invariant-loop-place
invariant-loop-place l = l.batch ≡ map (take l.place) (cells_of l.rows)
