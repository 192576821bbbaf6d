-- The rows so far, with those that are left, are those of the batch.
use Rattle.std.proofs.Common.{◌≡◌, ◌++◌, drop, map}
use Rattle.au_codes.specs.Decoding.{decoded_row}
use Rattle.au_exec.specs.HeldRows.{rows_of}
use Rattle.au_exec.proofs.decoded_values.decoded_values.Given as goal

abbrev pub invariant-loop-place : goal.invariant-loop-place
invariant-loop-place l = rows_of l.rows ++ map (decoded_row l.book l.kinds) (drop l.place l.batch) ≡ map (decoded_row l.book l.kinds) l.batch
