-- What is made, and what is still to be made of the cells.
use Rattle.std.proofs.Common.{◌≡◌, ◌++◌, drop}
use Rattle.au_codes.specs.Decoding.{decoded_row}
use Rattle.au_codes.proofs.cells.decode_row.Given as goal

abbrev pub invariant-loop-place : goal.invariant-loop-place
invariant-loop-place l = l.row.items ++ decoded_row l.book (drop l.place l.kinds) (drop l.place l.cells) ≡ decoded_row l.book l.kinds l.cells
