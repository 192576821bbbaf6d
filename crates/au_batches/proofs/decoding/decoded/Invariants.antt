-- The rows so far, with those that are left, are those that the batch stands for.
use Rattle.std.proofs.Common.{◌≡◌, ◌++◌, drop, map}
use Rattle.au_codes.specs.Decoding.{decoded_row}
use Rattle.au_encode.specs.Encode.{decode}
use Rattle.au_batches.proofs.decoding.decoded.Given as goal

abbrev pub invariant-loop-place : goal.invariant-loop-place
invariant-loop-place l = l.rel ++ decode l.columns (map (decoded_row l.book l.kinds) (drop l.place l.batch)) ≡ decode l.columns (map (decoded_row l.book l.kinds) l.batch)
