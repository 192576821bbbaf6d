-- The first numbers of both columns are the same.
use Rattle.std.proofs.Common.{◌≡◌, take}
use Rattle.au_batches.proofs.coded_blocks.same.Given as goal

abbrev pub invariant-loop-place : goal.invariant-loop-place
invariant-loop-place l = take l.place l.first ≡ take l.place l.second
