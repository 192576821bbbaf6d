-- The values so far, with those that are left, are those of the row.
use Rattle.std.proofs.Common.{◌≡◌, ◌++◌, [], drop, get_or}
use Rattle.au_codes.specs.Decoding.{decoded_row}
use Rattle.au_exec.proofs.decoded_values.row_values.Given as goal

abbrev pub invariant-loop-at : goal.invariant-loop-at
invariant-loop-at l = l.row.items ++ decoded_row l.book (drop l.at l.kinds) (drop l.at (get_or l.batch l.place [])) ≡ decoded_row l.book l.kinds (get_or l.batch l.place [])
